-- The answer of figures keeps the promise, after every use that has been its study's whole use. Assumes nothing.
use Rattle.std.proofs.Common.{◌≡◌, ℕ, sym, ap, ◌∙◌, subst}
use Rattle.std.proofs.lemmas.Bool.{cond_both}
use Rattle.structure.specs.Refusals.{refused, given}
use Rattle.structure.specs.Conditions.{outside}
use Rattle.promise.specs.Use.{Use, shape_of}
use Rattle.promise.specs.Calls.{figures_answer}
use Rattle.promise.specs.InForce.{left_by, figures_of}
use Rattle.promise.specs.Rules.{Ruled}
use Rattle.promise.specs.Promise.{Promise, given_by, KeepsPromise}
use Rattle.structure.proofs.Judged.{from_one_to}
use Rattle.promise.proofs.Stands.{stands}
use Rattle.promise.proofs.Lived.{lived_left}

-- figures gives the figures of a level that the structure has
left_promised : (u : Use) → Ruled u → (j : ℕ) → given_by (figures_answer (left_by u) j) (Promise u j)
left_promised u ruled j =
    cond_both (outside j (shape_of u).best) (refused 30) (given (figures_of u j)) (λ a. given_by a (Promise u j))
    (λ yes. tt) (λ no. let inside = from_one_to j (shape_of u).best no in stands u ruled j inside.0 inside.1)

pub promised : KeepsPromise
promised h j a answers u lived =
    let left = lived_left u h lived in
    let same : a ≡ figures_answer (left_by u) j = answers ∙ ap (λ h. figures_answer h j) left.1 in
    (left.1, subst (λ a. given_by a (Promise u j)) (sym same) (left_promised u left.0 j))
