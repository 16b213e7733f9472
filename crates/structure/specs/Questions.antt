-- What a structure's questions answer: none exactly outside. Assumes nothing.
use Rattle.std.specs.Prelude.{ℕ, ◌-◌, Bool, if◌then◌else◌, ◌&&◌, List, length, Some, None, Option, nat_le, slice_index}
use Rattle.structure.specs.Shape.{Shape, within, vector_count}

-- from 1 to n
abbrev pub inside : ℕ → ℕ → Bool
inside i n = nat_le 1 i && nat_le i n

-- the number at place i, counted from 1
abbrev pub at_place : List ℕ → ℕ → Option ℕ
at_place xs i = (if inside i (length xs) then Some (slice_index xs (i - 1)) else None)

-- the level of a vector that has one
abbrev pub level_if_within : Shape → List ℕ → Option ℕ
level_if_within s v = (if within s.tops v then Some (s.level v) else None)

-- how many vectors there are, where they are few enough
abbrev pub count_if_few : List ℕ → Option ℕ
count_if_few tops = (if nat_le (vector_count tops) 65536 then Some (vector_count tops) else None)
