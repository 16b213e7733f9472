-- What the values of the code stand for: rows, readings and records. Assumes nothing.
use Rattle.std.specs.Prelude.{ℕ, suc, Bool, List, ◌∷◌, map, length, take, nat_lt}
use Rattle.structure.specs.Minimal.{Entry}
use Rattle.promise.specs.Figures.{Rows, up_at, down_at, shares_at, of_level}
use Rattle.promise.specs.Calls.{row_tests}
use Rattle.tally.specs.declared.row.Row.{Row}
use Rattle.tally.specs.declared.record.Record.{Record}
use Rattle.tally.specs.declared.reading.Reading.{Reading}
use Rattle.tally.specs.declared.reading.Reading.TheVariants.{UpAt, UpOver, DownAt, DownOver}

-- ## Rows

-- the two rows of a component, for the ranks from 1 to its top
abbrev pub rows_of : Row → Rows
rows_of r = record { up = take r.top r.up; down = take r.top r.down }

-- when no rows are made: for a top over 7, and where they are refused
abbrev pub making_tests : (top : ℕ) → Rows → List (Bool × ℕ)
making_tests top r = (nat_lt 7 top, 21) ∷ row_tests top r

-- the share that a product takes of a component at a rank
abbrev pub reading_of : Reading → Rows → ℕ → ℕ
reading_of UpAt r x = up_at r x
reading_of UpOver r x = up_at r (suc x)
reading_of DownAt r x = down_at r x
reading_of DownOver r x = down_at r (suc x)

-- the shares that a product takes of a vector's components
abbrev pub shares_by : Reading → List Row → List ℕ → List ℕ
shares_by reading rows = shares_at (reading_of reading) (map rows_of rows)

-- ## Records

-- a record over n components
abbrev pub entry_of : ℕ → Record → Entry
entry_of n r = record { vector = take n r.vector; first = r.first; last = r.last }

-- the records of a level, over as many components as there are rows
abbrev pub entries_at : ℕ → List Row → List Record → List Entry
entries_at level rows records = of_level level (map (entry_of (length rows)) records)
