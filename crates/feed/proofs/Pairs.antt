-- The weighted sum over the pairs of a weight and a rank, and how large it can be. Assumes nothing.
use Rattle.std.proofs.Common.{◌≡◌, ℕ, suc, ◌+◌, ◌*◌, ◌≤◌, List, [], ◌∷◌, length, get_or, sum_by, Fits, arith, refl, ap, ◌∙◌}
use Rattle.std.specs.Int.{w8, w16}
use Rattle.std.specs.List.{zip}
use Rattle.std.proofs.lemmas.List.Sums.{sum_by-cons}
use Rattle.feed.specs.Feed.{weighted}
use Rattle.feed.proofs.Summed.{product_small}

-- weight and rank pair by pair
pub weighted_zip : (weights ranks : List ℕ) → sum_by (λ p. p.0 * p.1) (zip weights ranks) ≡ weighted weights ranks
weighted_zip [] ranks = refl
weighted_zip (w ∷ weights) [] = refl
weighted_zip (w ∷ weights) (r ∷ ranks) =
    let f : ℕ × ℕ → ℕ = λ p. p.0 * p.1 in sum_by-cons f (w, r) (zip weights ranks) ∙ ap (λ n. w * r + n) (weighted_zip weights ranks)

-- each weight has 16 bits, and each rank 8
pub weighted_few : (weights ranks : List ℕ) → ((i : ℕ) → Fits w16 (get_or weights i 0)) → ((i : ℕ) → Fits w8 (get_or ranks i 0)) →
    weighted weights ranks ≤ 16711425 * length weights
weighted_few [] ranks h k = omega arith
weighted_few (w ∷ weights) [] h k = omega arith
weighted_few (w ∷ weights) (r ∷ ranks) h k =
    omega (arith, product_small w r (h 0) (k 0), weighted_few weights ranks (λ i. h (suc i)) (λ i. k (suc i)))
