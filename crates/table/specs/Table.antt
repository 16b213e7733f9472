-- A table of levels, one for each vector in number order, and the tests that it has to pass. Assumes nothing.
use Rattle.std.specs.Prelude.{◌≡◌, ℕ, ◌-◌, Bool, true, if◌then◌else◌, not, ◌||◌, List, [], ◌∷◌, length, Some, None, Option, ◌==◌, nat_le, nat_lt, slice_index}
use Rattle.structure.specs.Shape.{Shape, within, vector_count, vectors}
use Rattle.structure.specs.Order.{number_in}
use Rattle.structure.specs.Minimal.{upper}
use Rattle.structure.specs.Conditions.{any, outside, any_outside, any_over}
use Rattle.structure.specs.Refusals.{Answer, accepted, judged}

-- the number of a vector that has one
abbrev pub number_if_within : List ℕ → List ℕ → Option ℕ
number_if_within tops v = (if within tops v then Some (number_in tops v) else None)

-- the level of a vector: what the table has at its number
abbrev pub table_level : List ℕ → List ℕ → List ℕ → ℕ
table_level tops levels v = slice_index levels (number_in tops v)

-- the fixed value from which a table answers
abbrev pub table_shape : List ℕ → ℕ → List ℕ → Shape
table_shape tops best levels = record { tops = tops; best = best; level = table_level tops levels }

-- ## The tests

-- the first vector's level is not 0, or the last vector's not the best
abbrev pub wrong_ends : List ℕ → ℕ → List ℕ → Bool
wrong_ends tops best levels = not (slice_index levels 0 == 0) || not (slice_index levels (vector_count tops - 1) == best)

-- some upper neighbour of the vector has a lower level
abbrev pub falls_at : List ℕ → List ℕ → List ℕ → Bool
falls_at tops levels v = any (λ w. nat_lt (table_level tops levels w) (table_level tops levels v)) (upper tops v)

-- some vector falls
abbrev pub falls : List ℕ → List ℕ → Bool
falls tops levels = any (falls_at tops levels) (vectors tops)

-- what is wrong with the levels, each with its number
abbrev pub level_tests : List ℕ → ℕ → List ℕ → List (Bool × ℕ)
level_tests tops best levels =
    (not (nat_le (vector_count tops) 65536), 14)
    ∷ (not (length levels == vector_count tops), 15)
    ∷ (any_over best levels, 16)
    ∷ (wrong_ends tops best levels, 17)
    ∷ (falls tops levels, 18) ∷ []

-- what is wrong with a table, each with its number
abbrev pub table_tests : List ℕ → ℕ → List ℕ → List ℕ → List (Bool × ℕ)
table_tests tops best tags levels =
    (outside (length tops) 12, 10)
    ∷ (not (length tags == length tops), 11)
    ∷ (any_outside 7 tops, 12)
    ∷ (outside best 7, 13)
    ∷ level_tests tops best levels

-- ## The answers

-- what the check of the levels is to answer
abbrev pub level_answer : List ℕ → ℕ → List ℕ → Answer (Unit {0})
level_answer tops best levels = judged (level_tests tops best levels)

-- what the check of a table is to answer
abbrev pub table_answer : List ℕ → ℕ → List ℕ → List ℕ → Answer (Unit {0})
table_answer tops best tags levels = judged (table_tests tops best tags levels)

-- the table passes every test
abbrev pub Passes : List ℕ → ℕ → List ℕ → List ℕ → Type 0
Passes tops best tags levels = accepted (table_answer tops best tags levels) ≡ true
