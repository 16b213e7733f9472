-- A row that does not fall: none is below the first or above the last. Assumes nothing.
use Rattle.std.specs.Prelude.{◌≡◌, ℕ, suc, ◌-◌, ◌≤◌, false, List, [], ◌∷◌, length, nat_lt, slice_index}
use Rattle.std.proofs.Common.{le_refl, le_trans, arith, subst}
use Rattle.std.specs.List.{AllByRecursion}
use Rattle.std.proofs.ByRecursion.{All-weaker}
use Rattle.std.proofs.lemmas.Bool.{ltb-false, or_parts}
use Rattle.structure.specs.Conditions.{any_fall}

-- the second number is not below the first, and the rest does not fall
next : (x y : ℕ) (ys : List ℕ) → any_fall (x ∷ y ∷ ys) ≡ false → (x ≤ y) × (any_fall (y ∷ ys) ≡ false)
next x y ys e = let h = or_parts (nat_lt y x) (any_fall (y ∷ ys)) e in (ltb-false y x h.0, h.1)

from_first : (x : ℕ) (xs : List ℕ) → any_fall (x ∷ xs) ≡ false → AllByRecursion (λ y. x ≤ y) (x ∷ xs)
from_first x [] e = (le_refl x, tt)
from_first x (y ∷ ys) e =
    let h = next x y ys e in
    (le_refl x, All-weaker (λ z. y ≤ z) (λ z. x ≤ z) (λ z l. le_trans h.0 l) (y ∷ ys) (from_first y ys h.1))

pub first_least : (xs : List ℕ) → any_fall xs ≡ false → AllByRecursion (λ y. slice_index xs 0 ≤ y) xs
first_least [] e = tt
first_least (x ∷ xs) e = from_first x xs e

to_last : (x : ℕ) (xs : List ℕ) → any_fall (x ∷ xs) ≡ false → AllByRecursion (λ y. y ≤ slice_index (x ∷ xs) (length xs)) (x ∷ xs)
to_last x [] e = (le_refl x, tt)
to_last x (y ∷ ys) e = let h = next x y ys e in let k = to_last y ys h.1 in (le_trans h.0 k.0, k)

pub last_most : (xs : List ℕ) → any_fall xs ≡ false → AllByRecursion (λ y. y ≤ slice_index xs (length xs - 1)) xs
last_most [] e = tt
last_most (x ∷ xs) e =
    let P : ℕ → Type 0 = λ n. AllByRecursion (λ y. y ≤ slice_index (x ∷ xs) n) (x ∷ xs) in
    let k : length xs ≡ suc (length xs) - 1 = omega arith in subst P k (to_last x xs e)
