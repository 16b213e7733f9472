-- A feed of weights and thresholds, and the tests that it has to pass. Assumes nothing.
use Rattle.std.specs.Prelude.{◌≡◌, ℕ, ◌+◌, ◌-◌, ◌*◌, Bool, true, not, ◌||◌, List, [], ◌∷◌, length, count_by, ◌==◌, nat_le, nat_lt, slice_index}
use Rattle.structure.specs.Shape.{Shape, vector_count}
use Rattle.structure.specs.Conditions.{outside, any_outside, any_over, any_fall}
use Rattle.structure.specs.Refusals.{Answer, accepted, judged}

-- the sum of weight times rank
abbrev pub weighted : List ℕ → List ℕ → ℕ
weighted [] ranks = 0
weighted (w ∷ weights) [] = 0
weighted (w ∷ weights) (r ∷ ranks) = w * r + weighted weights ranks

-- how many thresholds a sum reaches; an equal one counts as reached
abbrev pub reached : List ℕ → ℕ → ℕ
reached thresholds sum = count_by (λ t. nat_le t sum) thresholds

-- the level of a vector: how many thresholds its weighted sum reaches
abbrev pub feed_level : List ℕ → List ℕ → List ℕ → ℕ
feed_level weights thresholds v = reached thresholds (weighted weights v)

-- the fixed value from which a feed answers
abbrev pub feed_shape : List ℕ → List ℕ → List ℕ → Shape
feed_shape tops weights thresholds = record { tops = tops; best = length thresholds; level = feed_level weights thresholds }

-- ## The tests

-- tags or weights are not one for each component
abbrev pub wrong_lengths : List ℕ → List ℕ → List ℕ → Bool
wrong_lengths tops tags weights = not (length tags == length tops) || not (length weights == length tops)

-- the first threshold is 0, or the last is above the weighted sum of all tops
abbrev pub wrong_ends : List ℕ → List ℕ → List ℕ → Bool
wrong_ends tops weights thresholds = slice_index thresholds 0 == 0 || nat_lt (weighted weights tops) (slice_index thresholds (length thresholds - 1))

-- what is wrong with a feed, each with its number
abbrev pub feed_tests : List ℕ → List ℕ → List ℕ → List ℕ → List (Bool × ℕ)
feed_tests tops tags weights thresholds =
    (outside (length tops) 12, 10)
    ∷ (wrong_lengths tops tags weights, 11)
    ∷ (any_outside 7 tops, 12)
    ∷ (outside (length thresholds) 7, 13)
    ∷ (not (nat_le (vector_count tops) 65536), 14)
    ∷ (any_over 1000 weights, 16)
    ∷ (wrong_ends tops weights thresholds, 17)
    ∷ (any_fall thresholds, 18) ∷ []

-- ## The answers

-- what the check of a feed is to answer
abbrev pub feed_answer : List ℕ → List ℕ → List ℕ → List ℕ → Answer (Unit {0})
feed_answer tops tags weights thresholds = judged (feed_tests tops tags weights thresholds)

-- the feed passes every test
abbrev pub Passes : List ℕ → List ℕ → List ℕ → List ℕ → Type 0
Passes tops tags weights thresholds = accepted (feed_answer tops tags weights thresholds) ≡ true
