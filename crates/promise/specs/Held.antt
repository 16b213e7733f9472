-- What a study holds, and the figures that it gives. Assumes nothing.
use Rattle.std.specs.Prelude.{ℕ, zero, suc, ◌-◌, Bool, false, cond, List, [], ◌∷◌, ◌++◌, map, length, slice_set}
use Rattle.share.specs.Shares.{D, Arithmetic, rounded}
use Rattle.structure.specs.Refusals.{Answer, accepted}
use Rattle.structure.specs.Shape.{Shape, vector_count}
use Rattle.structure.specs.Minimal.{Entry, paths_of, cuts_of}
use Rattle.promise.specs.Figures.{Rows, no_shares, of_level, low_figure, high_figure}
use Rattle.promise.specs.Use.{Figures}

-- fixed at the open, the structure's tops, best level and number of vectors; then the rows in force, one pair for each
-- component; how far the search has come; and the entries that it has found
pub record Held : Type 0 where
  pub tops : List ℕ
  pub best : ℕ
  pub vectors : ℕ
  pub rows : List Rows
  pub examined : ℕ
  pub finished : Bool
  pub paths : List Entry
  pub cuts : List Entry

-- ## Its figures

-- the two figures of a level, in either arithmetic
module _ {V : Type 0} (A : Arithmetic V) (h : Held) (j : ℕ) where
  abbrev pub low_from : V
  low_from = low_figure A h.finished h.rows (of_level j h.paths) (of_level j h.cuts)

  abbrev pub high_from : V
  high_from = high_figure A h.finished h.rows (of_level j h.paths) (of_level j h.cuts)

-- what figures gives for a level
abbrev pub figures_from : Held → ℕ → Figures
figures_from h j = record {
  low = low_from rounded h j;
  high = high_from rounded h j;
  paths = length (of_level j h.paths);
  cuts = length (of_level j h.cuts);
}

-- the levels from 1 to j
abbrev pub levels_to : ℕ → List ℕ
levels_to zero = []
levels_to (suc j) = levels_to j ++ (suc j ∷ [])

-- the rows that a module sets where it is carried: for each of its levels low, and D less high
abbrev pub carried_from : Held → Rows
carried_from h = record {
  up = map (λ j. (figures_from h j).low) (levels_to h.best);
  down = map (λ j. D - (figures_from h j).high) (levels_to h.best);
}

-- ## What the calls change

-- at the open: no shares, no vector examined, no entries
abbrev pub first_held : Shape → Held
first_held s = record {
  tops = s.tops;
  best = s.best;
  vectors = vector_count s.tops;
  rows = map no_shares s.tops;
  examined = 0;
  finished = false;
  paths = [];
  cuts = [];
}

-- the list with x at place i, counted from 1, if the call was accepted
abbrev pub replaced : {A : Type 0} → Bool → List A → ℕ → A → List A
replaced ok xs i x = cond ok (slice_set xs (i - 1) x) xs

-- with r as the rows of component i, if the call was accepted; else all as it was
abbrev pub with_row : Held → ℕ → Rows → Answer (Unit {0}) → Held
with_row h i r a = record {
  tops = h.tops;
  best = h.best;
  vectors = h.vectors;
  rows = replaced (accepted a) h.rows i r;
  examined = h.examined;
  finished = h.finished;
  paths = h.paths;
  cuts = h.cuts;
}

-- with the search of the structure at k vectors
abbrev pub searched_to : Shape → Held → ℕ → Bool → Held
searched_to s h k finished = record {
  tops = h.tops;
  best = h.best;
  vectors = h.vectors;
  rows = h.rows;
  examined = k;
  finished = finished;
  paths = paths_of s k;
  cuts = cuts_of s k;
}
