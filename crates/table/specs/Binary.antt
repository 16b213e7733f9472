-- The built-in structure: one component with the ranks 0 and 1, whose rank is the level. Assumes nothing.
use Rattle.std.specs.Prelude.{ℕ, List, [], ◌∷◌}
use Rattle.structure.specs.Shape.{Shape}
use Rattle.table.specs.Table.{table_shape}

abbrev pub binary_tops : List ℕ
binary_tops = 1 ∷ []

abbrev pub binary_levels : List ℕ
binary_levels = 0 ∷ 1 ∷ []

abbrev pub binary_shape : Shape
binary_shape = table_shape binary_tops 1 binary_levels

abbrev pub binary_tags : List ℕ
binary_tags = 0 ∷ []
