-- The weighted sum: 0 of ranks zero, and no less of higher ranks. Assumes nothing.
use Rattle.std.specs.Prelude.{◌≡◌, ℕ, ◌≤◌, List, [], ◌∷◌, map, refl}
use Rattle.std.proofs.Common.{le_refl, mul-le-mul_left, add-le-add, arith}
use Rattle.structure.specs.Shape.{AllBelow}
use Rattle.feed.specs.Feed.{weighted}

-- ranks zero
pub weighted_zeros : (weights tops : List ℕ) → weighted weights (map (λ _. 0) tops) ≡ 0
weighted_zeros [] tops = refl
weighted_zeros (w ∷ weights) [] = refl
weighted_zeros (w ∷ weights) (a ∷ tops) = omega (arith, weighted_zeros weights tops)

-- higher ranks
pub weighted_rises : (weights u v : List ℕ) → AllBelow u v → weighted weights u ≤ weighted weights v
weighted_rises [] u v h = le_refl 0
weighted_rises (w ∷ weights) [] [] h = le_refl 0
weighted_rises (w ∷ weights) [] (s ∷ v) h = absurd h
weighted_rises (w ∷ weights) (r ∷ u) [] h = absurd h
weighted_rises (w ∷ weights) (r ∷ u) (s ∷ v) h = add-le-add (mul-le-mul_left w h.0) (weighted_rises weights u v h.1)
