-- What the first five lines of a case text say: each with its tests. Assumes nothing.
use Rattle.std.specs.Prelude.{ℕ, Bool, not, List, [], ◌∷◌, length, codes, ◌==◌, nat_le}
use Rattle.structure.specs.Conditions.{outside, any_outside}
use Rattle.structure.specs.Shape.{vector_count}
use Rattle.structure.specs.Refusals.{first_refusal}
use Rattle.table.specs.Table.{level_tests}
use Rattle.fields.specs.Numbers.{number_in, numbers_in, levels_in}
use Rattle.fields.specs.Readings.{Reading, at_line, and_then, or_refuse, line_reading}

abbrev pub components_line : List ℕ → Reading (ℕ × List ℕ)
components_line = line_reading 1 (codes "components=") number_in (λ n. (outside n 12, 10) ∷ [])

abbrev pub levels_line : List ℕ → Reading (ℕ × List ℕ)
levels_line = line_reading 2 (codes "levels=") number_in (λ best. (outside best 7, 13) ∷ [])

-- the list has not one number for each component
abbrev pub another_count : ℕ → List ℕ → Bool
another_count n xs = not (length xs == n)

-- the list that a value is on its line, with one number for each of n components
abbrev pub counted_list : ℕ → ℕ → List ℕ → Reading (List ℕ)
counted_list line n value =
    and_then (at_line line (or_refuse 41 (numbers_in value))) (λ numbers.
    at_line line (first_refusal ((another_count n numbers, 11) ∷ []) numbers))

abbrev pub top_tests : ℕ → List ℕ → List (Bool × ℕ)
top_tests n tops = (another_count n tops, 11) ∷ (any_outside 7 tops, 12) ∷ (not (nat_le (vector_count tops) 65536), 14) ∷ []

abbrev pub tops_line : ℕ → List ℕ → Reading (List ℕ × List ℕ)
tops_line n = line_reading 3 (codes "tops=") numbers_in (top_tests n)

abbrev pub tags_line : ℕ → List ℕ → Reading (List ℕ × List ℕ)
tags_line n = line_reading 4 (codes "tags=") numbers_in (λ tags. (another_count n tags, 11) ∷ [])

abbrev pub table_line : List ℕ → ℕ → List ℕ → Reading (List ℕ × List ℕ)
table_line tops best = line_reading 5 (codes "table=") levels_in (level_tests tops best)
