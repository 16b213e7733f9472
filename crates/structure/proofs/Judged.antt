-- Conditions of refusals of which none holds. Assumes nothing.
use Rattle.std.proofs.Common.{◌≡◌, ℕ, ◌≤◌, Bool, true, false, not, ◌&&◌, leb, List, [], ◌∷◌, refl, ap}
use Rattle.std.specs.List.{AllByRecursion}
use Rattle.std.proofs.lemmas.Bool.{and_from, and_parts, or_parts, not-false, le-leb, leb-true, false≢true}
use Rattle.structure.specs.Refusals.{accepted, first_refusal}
use Rattle.structure.specs.Conditions.{outside, any_outside}
use Rattle.structure.specs.Shape.{TopsFit}

-- where nothing is refused, no condition holds
pub none_holds : {A : Type 0} (cs : List (Bool × ℕ)) (a : A) → accepted (first_refusal cs a) ≡ true → AllByRecursion (λ c. c.0 ≡ false) cs
none_holds [] a e = tt
none_holds ((true, k) ∷ cs) a e = absurd (false≢true e)
none_holds ((false, k) ∷ cs) a e = (refl, none_holds cs a e)

-- from 1 to n, and back
pub not_outside : (i n : ℕ) → 1 ≤ i → i ≤ n → outside i n ≡ false
not_outside i n p q = ap not (and_from (leb 1 i) (leb i n) (le-leb 1 i p) (le-leb i n q))

pub from_one_to : (i n : ℕ) → outside i n ≡ false → (1 ≤ i) × (i ≤ n)
from_one_to i n e =
    let p = and_parts (leb 1 i) (leb i n) (not-false (leb 1 i && leb i n) e) in (leb-true 1 i p.0, leb-true i n p.1)

-- each top from 1 to 7
pub tops_fit : (tops : List ℕ) → any_outside 7 tops ≡ false → TopsFit tops
tops_fit [] e = tt
tops_fit (a ∷ tops) e =
    let h = or_parts (outside a 7) (any_outside 7 tops) e in
    let k = from_one_to a 7 h.0 in
    (k.0, k.1, tops_fit tops h.1)
