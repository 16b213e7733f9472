-- What a table holds: its shape and its tags, and those of a table that is made. Assumes nothing.
use Rattle.std.specs.Prelude.{ℕ, if◌then◌else◌, List}
use Rattle.structure.specs.Shape.{Shape}
use Rattle.structure.specs.Refusals.{accepted}
use Rattle.table.specs.declared.table.Table.{Table}
use Rattle.table.specs.Table.{table_shape, table_answer}
use Rattle.table.specs.Binary.{binary_shape, binary_tags}

-- the fixed value from which the table answers
abbrev pub shape_of : Table → Shape
shape_of t = table_shape t.tops.now t.best t.levels.now

abbrev pub tags_of : Table → List ℕ
tags_of t = t.tags.now

-- the shape and the tags that a table is made with: those asked for where the check accepts them, else the built-in ones
abbrev pub made_shape : List ℕ → ℕ → List ℕ → List ℕ → Shape
made_shape tops best tags levels =
    (if accepted (table_answer tops best tags levels) then table_shape tops best levels else binary_shape)

abbrev pub made_tags : List ℕ → ℕ → List ℕ → List ℕ → List ℕ
made_tags tops best tags levels = (if accepted (table_answer tops best tags levels) then tags else binary_tags)
