-- The calls of the function, one after another, are the study's whole use.
use Rattle.std.proofs.Common.{map, ◌∙◌, subst}
use Rattle.promise.specs.Calls.{Steps}
use Rattle.study.specs.Model.{word_of}
use Rattle.casetext.specs.Contents.{rows_of}
use Rattle.summary.proofs.CaseUse.{lived_searched}
use Rattle.summary.proofs.studied.searched.Goals as goal

pub returns : goal.returns
returns g c =
    let s = c.args.structure in
    let h₁ = c.enter_rows.new.study.ledger in
    let h₂ = c.step-word.new.self.ledger in
    let number = c.step-word.result.0 in
    let word = word_of c.step-word.result.1 in
    let kept = c.enter_rows.ensures.same ∙ c.in_ok-study.ensures.kept in
    let steps = subst (λ x. Steps (g.S.Structure.shape x) h₁ 65536 number word h₂) kept c.step-word.ensures.steps in (
      number,
      lived_searched (g.S.Structure.shape s) (g.S.Structure.tags s) (map rows_of c.args.rows.now) number word c.in_ok-study.study.ledger h₁ h₂
          (g.met.S.Structure.lawful s) (g.met.S.Structure.tagged s) c.in_ok-study.ensures.opens c.enter_rows.ensures.lived steps,
    )
