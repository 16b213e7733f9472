-- Conditions on numbers and rows of numbers under which calls refuse. Assumes nothing.
use Rattle.std.specs.Prelude.{ℕ, ◌+◌, Bool, false, not, ◌&&◌, ◌||◌, List, [], ◌∷◌, nat_le, nat_lt}
use Rattle.std.specs.List.{list_any}

-- not from 1 to n
abbrev pub outside : ℕ → ℕ → Bool
outside i n = not (nat_le 1 i && nat_le i n)

-- the test passes at some element
abbrev pub any : {A : Type 0} → (A → Bool) → List A → Bool
any = list_any

-- some number is not from 1 to n
abbrev pub any_outside : ℕ → List ℕ → Bool
any_outside n = any (λ x. outside x n)

-- some number is over d
abbrev pub any_over : ℕ → List ℕ → Bool
any_over d = any (λ x. nat_lt d x)

-- the test passes at some element and the one after it
abbrev pub any_next : {A : Type 0} → (A → A → Bool) → List A → Bool
any_next p [] = false
any_next p (x ∷ []) = false
any_next p (x ∷ y ∷ xs) = p x y || any_next p (y ∷ xs)

-- some number is above, or below, the one before it
abbrev pub any_rise : List ℕ → Bool
any_rise = any_next (λ x y. nat_lt x y)

abbrev pub any_fall : List ℕ → Bool
any_fall = any_next (λ x y. nat_lt y x)

-- some number of one row and its neighbour of the other are over d together
abbrev pub any_sum_over : ℕ → List ℕ → List ℕ → Bool
any_sum_over d [] ys = false
any_sum_over d (x ∷ xs) [] = false
any_sum_over d (x ∷ xs) (y ∷ ys) = nat_lt d (x + y) || any_sum_over d xs ys
