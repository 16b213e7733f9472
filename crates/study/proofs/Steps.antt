-- A step, vector by vector, and the words that it ends with. Assumes nothing.
use Rattle.std.proofs.Common.{◌≡◌, ℕ, ◌+◌, ◌<◌, ◌≤◌, Bool, true, false, cond, sym, ap, ◌∙◌, subst, arith}
use Rattle.std.proofs.lemmas.Bool.{not-true}
use Rattle.structure.specs.Shape.{Shape}
use Rattle.promise.specs.Held.{Held}
use Rattle.promise.specs.Calls.{Searches}
use Rattle.promise.specs.Further.{no_room, one_further, Underway}
use Rattle.promise.proofs.Laws.{underway_none, underway_searches, underway_more}
use Rattle.study.specs.Examining.{Keeps, Examines}
use Rattle.study.proofs.Examined.{keeps_all}

keeps_on : (h h' h'' : Held) → Keeps h h' → Keeps h' h'' → Keeps h h''
keeps_on h h' h'' a b = record { tops = b.tops ∙ a.tops; best = b.best ∙ a.best; vectors = b.vectors ∙ a.vectors; rows = b.rows ∙ a.rows }

-- a step that began at h has come to h' after number vectors
pub record Goes (s : Shape) (h : Held) (budget number : ℕ) (h' : Held) : Type 0 where
  pub budgeted : number ≤ budget
  pub keeps : Keeps h h'
  pub underway : Searches s h → Underway s h budget number h'

pub goes_none : (s : Shape) (h : Held) (budget : ℕ) → Goes s h budget 0 h
goes_none s h budget = record { budgeted = omega arith; keeps = keeps_all h; underway = λ at. underway_none s h at budget }

-- ## One vector further

module _ (s : Shape) (h : Held) (budget number : ℕ) (h' : Held) (on : Goes s h budget number h')
    (left : number < budget) (more : h'.examined < h'.vectors) (h'' : Held) where
  pub goes_more : (r : Bool) → r ≡ true → Examines s h' r h'' → Goes s h budget (number + 1) h''
  goes_more r e ex = record {
    budgeted = omega arith;
    keeps = keeps_on h h' h'' on.keeps ex.keeps;
    underway = further;
  }
    where
      further : Searches s h → Underway s h budget (number + 1) h''
      further at =
          let way = on.underway at in
          let f = ex.examines (underway_searches s h at budget number h' way) in
          let room : no_room s h' ≡ false = not-true (no_room s h') (sym f.0 ∙ e) in
          let is : h'' ≡ one_further s h' = f.1 ∙ ap (λ b. cond b (one_further s h') h') e in
          subst (Underway s h budget (number + 1)) (sym is) (underway_more s h at budget number h' way left more room)
