-- The ranks of a vector place by place, and a rank put in place of one of them. Assumes nothing.
use Rattle.std.proofs.Common.{◌≡◌, ℕ, zero, suc, ◌+◌, ◌-◌, ◌<◌, ◌≤◌, T, leb, List, [], ◌∷◌, get_or, set, ◌∙◌, arith, le→leb, leb→le}
use Rattle.std.proofs.lemmas.List.{set-set, set-get_or}
use Rattle.structure.specs.Shape.{within}
use Rattle.structure.proofs.Tests.{both, left, right}

-- each rank is at most its top
pub within_at : (tops v : List ℕ) (i : ℕ) → T (within tops v) → get_or v i 0 ≤ get_or tops i 0
within_at [] [] i t = omega arith
within_at [] (r ∷ v) i t = absurd t
within_at (a ∷ tops) [] i t = absurd t
within_at (a ∷ tops) (r ∷ v) zero t = leb→le r a (left (leb r a) (within tops v) t)
within_at (a ∷ tops) (r ∷ v) (suc i) t = within_at tops v i (right (leb r a) (within tops v) t)

-- a rank up to the top in place of one, where there is one
pub within_set : (tops v : List ℕ) (i r : ℕ) → T (within tops v) → r ≤ get_or tops i 0 → T (within tops (set v i r))
within_set [] [] i q t h = tt
within_set [] (r ∷ v) i q t h = absurd t
within_set (a ∷ tops) [] i q t h = absurd t
within_set (a ∷ tops) (r ∷ v) zero q t h = both (leb q a) (within tops v) (le→leb q a h) (right (leb r a) (within tops v) t)
within_set (a ∷ tops) (r ∷ v) (suc i) q t h =
    both (leb r a) (within tops (set v i q)) (left (leb r a) (within tops v) t)
    (within_set tops v i q (right (leb r a) (within tops v) t) h)

-- one rank higher where it is below its top, and one rank lower
pub within_raise : (tops v : List ℕ) (i : ℕ) → T (within tops v) → get_or v i 0 < get_or tops i 0 → T (within tops (set v i (get_or v i 0 + 1)))
within_raise tops v i t h = within_set tops v i (get_or v i 0 + 1) t (omega arith)

pub within_lower : (tops v : List ℕ) (i : ℕ) → T (within tops v) → T (within tops (set v i (get_or v i 0 - 1)))
within_lower tops v i t = within_set tops v i (get_or v i 0 - 1) t (omega (arith, within_at tops v i t))

-- the rank put back
pub put_back : (v : List ℕ) (i r : ℕ) → set (set v i r) i (get_or v i 0) ≡ v
put_back v i r = set-set v i r (get_or v i 0) ∙ set-get_or v i 0
