-- What a use leaves: its components, each by its last accepted enter or carry, and what its study then holds. Assumes
-- nothing.
use Rattle.std.specs.Prelude.{ℕ, List, [], ◌∷◌, ◌++◌, map, slice_index}
use Rattle.share.specs.Shares.{Arithmetic}
use Rattle.structure.specs.Refusals.{accepted}
use Rattle.structure.specs.Shape.{top_at, vector_count}
use Rattle.structure.specs.Minimal.{Entry, paths_of, cuts_of}
use Rattle.probability.specs.Runs.{Run}
use Rattle.promise.specs.Figures.{Rows, no_shares}
use Rattle.promise.specs.Use.{Use, opened, entered, carried, stepped, asked, Figures, shape_of, tag_at, examined, is_finished}
use Rattle.promise.specs.Held.{Held, low_from, high_from, figures_from, carried_from, replaced}

-- ## The study of a use, by its rows

-- the entries that it has found
abbrev pub paths_found : Use → List Entry
paths_found u = paths_of (shape_of u) (examined u)

abbrev pub cuts_found : Use → List Entry
cuts_found u = cuts_of (shape_of u) (examined u)

-- what it holds with these rows in force
abbrev pub holding : Use → List Rows → Held
holding u rows = record {
  tops = (shape_of u).tops;
  best = (shape_of u).best;
  vectors = vector_count (shape_of u).tops;
  rows = rows;
  examined = examined u;
  finished = is_finished u;
  paths = paths_found u;
  cuts = cuts_found u;
}

-- ## Components

-- the tags of the diaries below a component, its top, its rows in force, and its rank at a moment of a run
pub record Component : Type 0 where
  pub tags : List ℕ
  pub top : ℕ
  pub rows : Rows
  pub rank : Run → ℕ → ℕ

-- of components side by side: their rows, all their tags, and their ranks
abbrev pub all_rows : List Component → List Rows
all_rows = map (λ c. c.rows)

abbrev pub all_tags : List Component → List ℕ
all_tags [] = []
all_tags (c ∷ cs) = c.tags ++ all_tags cs

abbrev pub all_ranks : Run → ℕ → List Component → List ℕ
all_ranks run t = map (λ c. c.rank run t)

-- ## A component by itself

-- with a diary of its own
abbrev pub own : ℕ → ℕ → Rows → Component
own tag top r = record { tags = tag ∷ []; top = top; rows = r; rank = λ run t. slice_index (run tag) t }

-- that a module with the components cs is carried to: it has the module's tags, figures and level
abbrev pub carrying : Use → List Component → ℕ → Component
carrying m cs top = record {
  tags = all_tags cs;
  top = top;
  rows = carried_from (holding m (all_rows cs));
  rank = λ run t. (shape_of m).level (all_ranks run t cs);
}

-- ## The components of a use

-- at the open, with no shares
abbrev pub first_components : List ℕ → List ℕ → List Component
first_components [] tops = []
first_components (t ∷ tags) [] = []
first_components (t ∷ tags) (a ∷ tops) = own t a (no_shares a) ∷ first_components tags tops

-- each by its last accepted enter or carry
abbrev pub components : Use → List Component
components (opened s tags) = first_components tags s.tops
components (entered u i r a) = replaced (accepted a) (components u) i (own (tag_at u i) (top_at (shape_of u) i) r)
components (carried u i m a) = replaced (accepted a) (components u) i (carrying m (components m) (top_at (shape_of u) i))
components (stepped u b k w) = components u
components (asked u q) = components u

-- their rows in force, the tags of all diaries below them, and their ranks at a moment of a run
abbrev pub in_force : Use → List Rows
in_force u = all_rows (components u)

abbrev pub tags_below : Use → List ℕ
tags_below u = all_tags (components u)

abbrev pub ranks_at : Use → Run → ℕ → List ℕ
ranks_at u run t = all_ranks run t (components u)

-- ## What a use leaves

-- what its study holds
abbrev pub left_by : Use → Held
left_by u = holding u (in_force u)

-- the rows that a carry of it sets
abbrev pub carried_rows : Use → Rows
carried_rows u = carried_from (left_by u)

-- the two figures of a level, in either arithmetic
module _ {V : Type 0} (A : Arithmetic V) (u : Use) (j : ℕ) where
  abbrev pub low_by : V
  low_by = low_from A (left_by u) j

  abbrev pub high_by : V
  high_by = high_from A (left_by u) j

-- what figures gives for a level
abbrev pub figures_of : Use → ℕ → Figures
figures_of u = figures_from (left_by u)
