-- What is held with the rows of one component changed. Assumes nothing.
use Rattle.std.specs.Prelude.{ℕ, slice_set}
use Rattle.promise.specs.Figures.{Rows}
use Rattle.promise.specs.Held.{Held}

-- with the rows r at this place, counted from 0, and everything else as it was
abbrev pub with_row_at : Held → ℕ → Rows → Held
with_row_at h place r = record {
  tops = h.tops;
  best = h.best;
  vectors = h.vectors;
  rows = slice_set h.rows place r;
  examined = h.examined;
  finished = h.finished;
  paths = h.paths;
  cuts = h.cuts;
}
