-- The values of lines: a number, numbers split by commas, and a table's digits. Assumes nothing.
use Rattle.std.specs.Prelude.{ℕ, ◌+◌, ◌-◌, ◌*◌, Bool, true, false, if◌then◌else◌, not, ◌&&◌, List, [], ◌∷◌, map, length, Some, None, Option, ◌==◌, nat_le}

-- the test passes at every element
abbrev pub every : {A : Type 0} → (A → Bool) → List A → Bool
every p [] = true
every p (x ∷ xs) = p x && every p xs

-- ## A number

-- a byte from 0 to 9
abbrev pub is_digit : ℕ → Bool
is_digit b = nat_le 48 b && nat_le b 57

-- the number that digits write after those of n
abbrev pub digits_after : ℕ → List ℕ → ℕ
digits_after n [] = n
digits_after n (b ∷ bs) = digits_after (n * 10 + (b - 48)) bs

-- the number that digits write
abbrev pub number_of_digits : List ℕ → ℕ
number_of_digits = digits_after 0

-- that number, where all bytes are digits and it is at most 4,294,967,295
abbrev pub digits_in : ℕ → List ℕ → Option ℕ
digits_in n bs = (if every is_digit bs && nat_le (digits_after n bs) 4294967295 then Some (digits_after n bs) else None)

-- a zero before another byte
abbrev pub leads_with_zero : List ℕ → Bool
leads_with_zero [] = false
leads_with_zero (b ∷ []) = false
leads_with_zero (b ∷ x ∷ bs) = b == 48

-- 1 to 10 digits without leading zeros, at most 4,294,967,295
abbrev pub is_number : List ℕ → Bool
is_number bs =
    nat_le 1 (length bs) && nat_le (length bs) 10 && not (leads_with_zero bs)
    && (every is_digit bs && nat_le (number_of_digits bs) 4294967295)

abbrev pub number_in : List ℕ → Option ℕ
number_in bs = (if is_number bs then Some (number_of_digits bs) else None)

-- ## Numbers split by commas

-- the byte before the first piece
abbrev pub onto : ℕ → List (List ℕ) → List (List ℕ)
onto b [] = (b ∷ []) ∷ []
onto b (p ∷ ps) = (b ∷ p) ∷ ps

-- the pieces between the commas, one more than there are commas
abbrev pub pieces : List ℕ → List (List ℕ)
pieces [] = [] ∷ []
pieces (b ∷ bs) = (if b == 44 then [] ∷ pieces bs else onto b (pieces bs))

-- every piece is a number
abbrev pub numbers_in : List ℕ → Option (List ℕ)
numbers_in bs = (if every is_number (pieces bs) then Some (map number_of_digits (pieces bs)) else None)

-- ## A table's digits

-- a byte from 0 to 7
abbrev pub is_level : ℕ → Bool
is_level b = nat_le 48 b && nat_le b 55

-- every byte is a digit from 0 to 7
abbrev pub levels_in : List ℕ → Option (List ℕ)
levels_in bs = (if every is_level bs then Some (map (λ b. b - 48) bs) else None)
