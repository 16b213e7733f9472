-- Further digits make no number smaller. Assumes nothing.
use Rattle.std.proofs.Common.{ℕ, ◌+◌, ◌-◌, ◌*◌, ◌≤◌, List, [], ◌∷◌, arith}
use Rattle.fields.specs.Numbers.{digits_after}

pub digits_after_least : (n : ℕ) (bs : List ℕ) → n ≤ digits_after n bs
digits_after_least n [] = omega arith
digits_after_least n (b ∷ bs) = omega (arith, digits_after_least (n * 10 + (b - 48)) bs)
