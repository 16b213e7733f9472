-- The weighted sum, component by component. Assumes nothing.
use Rattle.std.proofs.Common.{◌≡◌, ℕ, ◌+◌, ◌*◌, ◌<◌, ◌≤◌, List, length, drop, get_or, mul-le-mul, arith, ap, ap₂, Fits}
use Rattle.std.specs.Int.{w8, w16}
use Rattle.std.proofs.lemmas.List.{drop_more, drop_all}
use Rattle.feed.specs.Feed.{weighted}

-- a weight of 16 bits times a rank of 8
pub product_small : (w r : ℕ) → Fits w16 w → Fits w8 r → w * r ≤ 16711425
product_small w r h k =
    let a : w ≤ 65535 = omega arith in
    let b : r ≤ 255 = omega arith in
    mul-le-mul a b

module _ (weights ranks : List ℕ) where
  -- n is the sum over the components before place i
  abbrev pub Summed : ℕ → ℕ → Type 0
  Summed i n = n + weighted (drop i weights) (drop i ranks) ≡ weighted weights ranks

  pub summed_more : (i n : ℕ) → i < length weights → i < length ranks → Summed i n → Summed (i + 1) (n + get_or weights i 0 * get_or ranks i 0)
  summed_more i n h k e = omega (arith, e, ap₂ weighted (drop_more weights i 0 h) (drop_more ranks i 0 k))

  pub summed_all : (i n : ℕ) → length weights ≤ i → Summed i n → n ≡ weighted weights ranks
  summed_all i n h e = omega (arith, e, ap (λ ws. weighted ws (drop i ranks)) (drop_all i weights h))
