-- What the parts of a step answer about one vector, and what they list. Assumes nothing.
use Rattle.std.specs.Prelude.{◌≡◌, ℕ, ◌+◌, Bool, cond, not, ◌&&◌, ◌||◌, T, List, [], ◌∷◌, ◌++◌, length, Some, Option, nat_le, nat_lt}
use Rattle.structure.specs.Shape.{Shape, within}
use Rattle.structure.specs.Minimal.{Entry, highest_below, lowest_above, one_if}
use Rattle.promise.specs.Held.{Held}
use Rattle.promise.specs.Calls.{Searches}
use Rattle.promise.specs.Further.{no_room, one_further}
use Rattle.tally.specs.declared.record.Record.{Record}
use Rattle.study.specs.declared.examine.Levels.{Levels}

-- ## What the structure is asked

-- of a vector of the structure: the highest level one rank lower
abbrev pub FindsHighest : Shape → List ℕ → Option ℕ → Type 0
FindsHighest s x r = T (within s.tops x) → r ≡ Some (highest_below s x)

-- and the lowest level one rank higher, where the tops and the best level are the structure's
abbrev pub FindsLowest : Shape → (tops : List ℕ) (best : ℕ) → List ℕ → Option ℕ → Type 0
FindsLowest s tops best x r = tops ≡ s.tops → best ≡ s.best → T (within s.tops x) → r ≡ Some (lowest_above s x)

-- a vector's level, the highest one rank lower and the lowest one rank higher
abbrev pub levels_of : Shape → List ℕ → Levels
levels_of s x = record { level = s.level x; below = highest_below s x; above = lowest_above s x }

abbrev pub FindsLevels : Shape → (tops : List ℕ) (best : ℕ) → List ℕ → Option Levels → Type 0
FindsLevels s tops best x r = tops ≡ s.tops → best ≡ s.best → T (within s.tops x) → r ≡ Some (levels_of s x)

-- ## What is listed

-- the record of a vector for the levels over one up to another, if there are any
abbrev pub record_over : (vector : List ℕ) (under last : ℕ) → List Record
record_over v under last = cond (nat_lt under last) (record { vector = v; first = under + 1; last = last } ∷ []) []

abbrev pub entry_over : (x : List ℕ) (under last : ℕ) → List Entry
entry_over x under last = one_if (nat_lt under last) (record { vector = x; first = under + 1; last = last })

-- there is such a level, and the list holds 256
abbrev pub full_for : {A : Type 0} → List A → (under last : ℕ) → Bool
full_for list under last = nat_lt under last && nat_le 256 (length list)

-- a vector with these levels needs a record in a list that holds 256
abbrev pub full_at : Held → Levels → Bool
full_at h l = full_for h.paths l.below l.level || full_for h.cuts l.level l.above

-- with the vector counted as examined and listed where it is to be
abbrev pub with_listed : Held → List ℕ → Levels → Held
with_listed h x l = record {
  tops = h.tops;
  best = h.best;
  vectors = h.vectors;
  rows = h.rows;
  examined = h.examined + 1;
  finished = h.finished;
  paths = h.paths ++ entry_over x l.below l.level;
  cuts = h.cuts ++ entry_over x l.level l.above;
}

-- it is listed unless a list has no room
abbrev pub Lists : Held → List ℕ → Levels → Bool → Held → Type 0
Lists h x l r h' = (r ≡ not (full_at h l)) × (h' ≡ cond r (with_listed h x l) h)

-- ## One vector further

-- what a step has no part in is as it was
pub record Keeps (h h' : Held) : Type 0 where
  pub tops : h'.tops ≡ h.tops
  pub best : h'.best ≡ h.best
  pub vectors : h'.vectors ≡ h.vectors
  pub rows : h'.rows ≡ h.rows

-- the next vector is examined unless a list has no room for it
pub record Examines (s : Shape) (h : Held) (r : Bool) (h' : Held) : Type 0 where
  pub keeps : Keeps h h'
  pub examines : Searches s h → (r ≡ not (no_room s h)) × (h' ≡ cond r (one_further s h) h)
