-- The levels from 1 on, and a row with a number for each. Assumes nothing.
use Rattle.std.proofs.Common.{◌≡◌, ℕ, zero, suc, ◌+◌, ◌<◌, [], ◌∷◌, ◌++◌, map, length, get_or, sym, refl, ap, ◌∙◌, ⊎_elim, add-one, arith, length-append}
use lib.ListN.{length-map}
use Rattle.std.proofs.lemmas.List.{get_or-map, get_or_append_left, get_or_push, map_push}
use Rattle.std.proofs.lemmas.Bool.{cases_lt}
use Rattle.promise.specs.Held.{levels_to}

pub length_levels : (n : ℕ) → length (levels_to n) ≡ n
length_levels zero = refl
length_levels (suc n) = length-append (levels_to n) (suc n ∷ []) ∙ omega (arith, length_levels n)

pub level_at_place : (n k : ℕ) → k < n → get_or (levels_to n) k 0 ≡ suc k
level_at_place zero k h = absurd (omega arith)
level_at_place (suc n) k h = ⊎_elim
    (λ before. get_or_append_left (levels_to n) (suc n ∷ []) 0 k (omega (arith, length_levels n)) ∙ level_at_place n k before)
    (λ last. get_or_push (levels_to n) (suc n) 0 k (omega (arith, length_levels n)) ∙ omega arith)
    (cases_lt k n)

-- a row of figures, at a level
pub row_at : (f : ℕ → ℕ) (n k d : ℕ) → k < n → get_or (map f (levels_to n)) k d ≡ f (suc k)
row_at f n k d h = get_or-map f (levels_to n) k 0 d (omega (arith, length_levels n)) ∙ ap f (level_at_place n k h)

pub row_length : (f : ℕ → ℕ) (n : ℕ) → length (map f (levels_to n)) ≡ n
row_length f n = length-map (levels_to n) f ∙ length_levels n

-- one level more
pub levels_more : (n : ℕ) → levels_to (n + 1) ≡ levels_to n ++ ((n + 1) ∷ [])
levels_more n = ap levels_to (add-one n) ∙ ap (λ k. levels_to n ++ (k ∷ [])) (sym (add-one n))

pub row_more : (f : ℕ → ℕ) (n : ℕ) → map f (levels_to (n + 1)) ≡ map f (levels_to n) ++ (f (n + 1) ∷ [])
row_more f n = ap (map f) (levels_more n) ∙ map_push f (levels_to n) (n + 1)
