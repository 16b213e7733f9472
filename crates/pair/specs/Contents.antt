-- What a pair holds: its shape and its tags, from the shapes and the tags of its parts. Assumes nothing.
use Rattle.std.specs.Prelude.{ℕ, List}
use Rattle.structure.specs.Shape.{Shape}
use Rattle.pair.specs.declared.pair.Pair.{Pair}
use Rattle.pair.specs.Paired.{paired, paired_tags}

-- the fixed value from which the pair answers
abbrev pub shape_of : {A B : Type 0} → (A → Shape) → (B → Shape) → Pair A B → Shape
shape_of f g p = paired p.join (f p.first) (g p.second)

abbrev pub tags_of : {A B : Type 0} → (A → Shape) → (B → Shape) → (A → List ℕ) → (B → List ℕ) → Pair A B → List ℕ
tags_of f g t u p = paired_tags (f p.first) (g p.second) (t p.first) (u p.second)
