-- Whether two structures can be joined. Assumes nothing.
use Rattle.std.specs.Prelude.{ℕ, ◌+◌, Bool, not, List, [], ◌∷◌, ◌++◌, length, ◌==◌, nat_le}
use Rattle.structure.specs.Shape.{Shape, vector_count}
use Rattle.structure.specs.Conditions.{outside}
use Rattle.structure.specs.Refusals.{Answer, accepted, judged}

-- what is wrong with a pair of these two, each with its number: the components of both, unequal best levels, the vectors of both
abbrev pub pair_tests : Shape → Shape → List (Bool × ℕ)
pair_tests a b =
    (outside (length a.tops + length b.tops) 12, 10)
    ∷ (not (a.best == b.best), 13)
    ∷ (not (nat_le (vector_count (a.tops ++ b.tops)) 65536), 14) ∷ []

-- what the check of a pair is to answer
abbrev pub pair_answer : Shape → Shape → Answer (Unit {0})
pair_answer a b = judged (pair_tests a b)

-- the two pass every test
abbrev pub fit : Shape → Shape → Bool
fit a b = accepted (pair_answer a b)
