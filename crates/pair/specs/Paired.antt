-- What a pair answers from, and how a question is split between its parts. Assumes nothing.
use Rattle.std.specs.Prelude.{ℕ, ◌-◌, ◌&&◌, List, ◌++◌, length, take, Some, None, Option, nat_lt, if◌then◌else◌}
use Rattle.std.specs.List.{between}
use Rattle.structure.specs.Shape.{Shape}
use Rattle.structure.specs.Questions.{level_if_within}
use Rattle.pair.specs.declared.join.Join.{Join}
use Rattle.pair.specs.Fit.{fit}
use Rattle.pair.specs.Joined.{joined, joined_if}

-- both structures where they fit, else the first alone
abbrev pub paired : Join → Shape → Shape → Shape
paired j a b = (if fit a b then joined j a b else a)

-- the first's tags and then the second's
abbrev pub paired_tags : Shape → Shape → List ℕ → List ℕ → List ℕ
paired_tags a b ts us = (if fit a b then ts ++ us else ts)

-- the number in the second of a component that comes after the first's
abbrev pub second_place : Shape → Shape → ℕ → Option ℕ
second_place a b i = (if fit a b && nat_lt (length a.tops) i then Some (i - length a.tops) else None)

-- the level of a vector whose first n ranks go to the first and the rest to the second
abbrev pub level_by_parts : Join → Shape → Shape → ℕ → List ℕ → Option ℕ
level_by_parts j a b n v = joined_if j (level_if_within a (take n v)) (level_if_within b (between n (length v) v))
