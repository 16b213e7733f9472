-- A step in the making, vector by vector: words for the code that does it, on which the promise does not rest. Assumes
-- nothing.
use Rattle.std.specs.Prelude.{◌≡◌, ℕ, ◌+◌, ◌<◌, ◌≤◌, Bool, false, ◌&&◌, ◌||◌, List, ◌++◌, length, nat_le, nat_lt}
use Rattle.structure.specs.Shape.{Shape, vector_count, vector_at}
use Rattle.structure.specs.Minimal.{highest_below, lowest_above, path_entry, cut_entry}
use Rattle.promise.specs.Use.{Word, blocked, says_finished}
use Rattle.promise.specs.Held.{Held, searched_to}

-- the vector that the search examines next
abbrev pub next_vector : Shape → Held → List ℕ
next_vector s h = vector_at s h.examined

-- it needs an entry in a list that holds 256
abbrev pub no_room : Shape → Held → Bool
no_room s h =
    let x = next_vector s h in
    (nat_lt (highest_below s x) (s.level x) && nat_le 256 (length h.paths)) || (nat_lt (s.level x) (lowest_above s x) && nat_le 256 (length h.cuts))

-- with that vector examined, its entries at the ends of the lists
abbrev pub one_further : Shape → Held → Held
one_further s h = record {
  tops = h.tops;
  best = h.best;
  vectors = h.vectors;
  rows = h.rows;
  examined = h.examined + 1;
  finished = h.finished;
  paths = h.paths ++ path_entry s (next_vector s h);
  cuts = h.cuts ++ cut_entry s (next_vector s h);
}

-- with the word's mark
abbrev pub marked : Word → Held → Held
marked w h = record {
  tops = h.tops;
  best = h.best;
  vectors = h.vectors;
  rows = h.rows;
  examined = h.examined;
  finished = says_finished w || h.finished;
  paths = h.paths;
  cuts = h.cuts;
}

-- a step that began at h has examined number vectors so far, and the study holds h'
pub record Underway (s : Shape) (h : Held) (budget number : ℕ) (h' : Held) : Type 0 where
  pub within_budget : number ≤ budget
  pub within_vectors : h.examined + number ≤ vector_count s.tops
  pub none_blocked : (i : ℕ) → i < number → blocked s (h.examined + i) ≡ false
  pub so_far : h' ≡ searched_to s h (h.examined + number) h.finished
