-- The built-in structure: one component with the ranks 0 and 1, whose rank is the level. Assumes nothing.
use Rattle.std.specs.Prelude.{ℕ, List, [], ◌∷◌}
use Rattle.structure.specs.Shape.{Shape}
use Rattle.feed.specs.Feed.{feed_shape}

abbrev pub binary_shape : Shape
binary_shape = feed_shape (1 ∷ []) (1 ∷ []) (1 ∷ [])

abbrev pub binary_tags : List ℕ
binary_tags = 0 ∷ []
