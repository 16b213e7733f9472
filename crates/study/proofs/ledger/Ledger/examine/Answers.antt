-- The vector made is the next one, so that the structure answers and its own levels are listed.
use Rattle.std.proofs.Common.{◌≡◌, None, length, take, ap, ◌∙◌, subst}
use Rattle.std.specs.Option.{is_some}
use Rattle.structure.specs.Shape.{vector_count}
use Rattle.study.specs.Examining.{FindsLevels, Examines}
use Rattle.study.proofs.Examined.{vector_made, own_levels, never_none, examined_listed, examined_none}
use Rattle.study.proofs.ledger.Ledger.examine.Goals as goal

pub returns-clause-examines : goal.returns-clause-examines
returns-clause-examines g c =
    let s = g.S.Structure.shape c.args.structure.now in
    let h = c.args.self.now in
    let tops = ap (λ h. h.tops) c.self.view_is in
    let v = c.vector_of-vector.result in
    let counted : h.vectors ≡ vector_count h.tops = subst (λ h. h.vectors ≡ vector_count h.tops) c.self.view_is c.self.invariant.counted in
    let made = vector_made h c.deref.result.now v _ (c.deref.ensures.value ∙ tops) (ap (λ h. h.examined) c.self.view_is) counted c.requires c.vector_of-vector.ensures in
    let x = take (length h.tops) v in
    let asked : FindsLevels s h.tops h.best x c.levels.result =
    subst (λ n. FindsLevels s h.tops h.best (take n v) c.levels.result) (c.len.ensures ∙ c.self.inside.tops.ok.0 ∙ ap length tops) c.levels.ensures in
    examined_listed s h c.list.new.self x c.in_ok-levels.levels (is_some c.list.result) c.list.ensures.lists
    (own_levels s h x made c.requires c.levels.result asked c.in_ok-levels.levels c.in_ok-levels.was)

pub returns-in_err-levels-clause-examines : goal.returns-in_err-levels-clause-examines
returns-in_err-levels-clause-examines g c =
    let s = g.S.Structure.shape c.args.structure.now in
    let h = c.args.self.now in
    let tops = ap (λ h. h.tops) c.self.view_is in
    let v = c.vector_of-vector.result in
    let counted : h.vectors ≡ vector_count h.tops = subst (λ h. h.vectors ≡ vector_count h.tops) c.self.view_is c.self.invariant.counted in
    let made = vector_made h c.deref.result.now v _ (c.deref.ensures.value ∙ tops) (ap (λ h. h.examined) c.self.view_is) counted c.requires c.vector_of-vector.ensures in
    let x = take (length h.tops) v in
    let asked : FindsLevels s h.tops h.best x c.levels.result =
    subst (λ n. FindsLevels s h.tops h.best (take n v) c.levels.result) (c.len.ensures ∙ c.self.inside.tops.ok.0 ∙ ap length tops) c.levels.ensures in
    let none : Examines s h (is_some {T = Unit {0}} None) h =
    examined_none s h (never_none s h x made c.requires c.levels.result asked c.in_err-levels.was) in
    rw c.from_residual.ensures none
