-- What each call does: over what the study holds before and after it, what the call was given, and what it answered.
-- Assumes nothing.
use Rattle.std.specs.Prelude.{◌≡◌, ℕ, ◌+◌, ◌-◌, ◌≤◌, Bool, cond, not, ◌&&◌, ◌||◌, List, [], ◌∷◌, length, ◌==◌, slice_index, slice_index_or}
use Rattle.share.specs.Shares.{D}
use Rattle.structure.specs.Refusals.{Answer, accepted, first_refusal}
use Rattle.structure.specs.Conditions.{outside, any_over, any_rise, any_fall, any_sum_over}
use Rattle.structure.specs.Shape.{Shape, vector_count}
use Rattle.structure.specs.Minimal.{Entry, paths_of, cuts_of}
use Rattle.promise.specs.Figures.{Rows}
use Rattle.promise.specs.Use.{Word, Side, path_list, cut_list, Figures, Query, figures, show, StepRule, says_finished}
use Rattle.promise.specs.Held.{Held, figures_from, carried_from, first_held, with_row, searched_to}

-- ## Open

-- open sets all shares to 0, and has found and examined nothing; it refuses nothing
abbrev pub Opens : Shape → Held → Type 0
Opens s h = h ≡ first_held s

-- ## Enter and carry

-- the up row rises, or the down row falls
abbrev pub disordered : Rows → Bool
disordered r = any_rise r.up || any_fall r.down

-- when rows are refused for a component with this top: another length, a number over the whole, the wrong order, an up
-- and a down share over the whole together
abbrev pub row_tests : (top : ℕ) → Rows → List (Bool × ℕ)
row_tests top r =
    (not (length r.up == top && length r.down == top), 21)
    ∷ (any_over D r.up || any_over D r.down, 22)
    ∷ (disordered r, 23)
    ∷ (any_sum_over D r.up r.down, 24)
    ∷ []

-- enter refuses a component that is not there, and such rows
abbrev pub enter_tests : (tops : List ℕ) → ℕ → Rows → List (Bool × ℕ)
enter_tests tops i r = (outside i (length tops), 20) ∷ row_tests (slice_index tops (i - 1)) r

abbrev pub enter_answer : (tops : List ℕ) → ℕ → Rows → Answer (Unit {0})
enter_answer tops i r = first_refusal (enter_tests tops i r) tt

-- enter sets the rows of component i to r, unless it refuses
abbrev pub Enters : Held → ℕ → Rows → Answer (Unit {0}) → Held → Type 0
Enters h i r a h' = (a ≡ enter_answer h.tops i r) × (h' ≡ with_row h i r a)

-- carry refuses a component that is not there, a module of another best level, and rows in the wrong order
abbrev pub carry_tests : (tops : List ℕ) → ℕ → (best : ℕ) → Rows → List (Bool × ℕ)
carry_tests tops i best r =
    (outside i (length tops), 20) ∷ (not (best == slice_index tops (i - 1)), 21) ∷ (disordered r, 23) ∷ []

abbrev pub carry_answer : (tops : List ℕ) → ℕ → (best : ℕ) → Rows → Answer (Unit {0})
carry_answer tops i best r = first_refusal (carry_tests tops i best r) tt

-- carry sets them to the figures of a module whose study holds p, unless it refuses
abbrev pub Carries : Held → ℕ → Held → Answer (Unit {0}) → Held → Type 0
Carries h i p a h' = (a ≡ carry_answer h.tops i p.best (carried_from p)) × (h' ≡ with_row h i (carried_from p) a)

-- ## Step

-- the study was opened over this structure, and its lists are those of the vectors examined
pub record Searches (s : Shape) (h : Held) : Type 0 where
  pub tops : h.tops ≡ s.tops
  pub best : h.best ≡ s.best
  pub vectors : h.vectors ≡ vector_count s.tops
  pub examined : h.examined ≤ vector_count s.tops
  pub paths : h.paths ≡ paths_of s h.examined
  pub cuts : h.cuts ≡ cuts_of s h.examined

module _ (s : Shape) (h : Held) (budget number : ℕ) (word : Word) (h' : Held) where
  -- step with a budget examines number further vectors of the structure, and answers that and the word
  pub record Stepped : Type 0 where
    pub rule : StepRule s h.examined budget number word
    pub after : h' ≡ searched_to s h (h.examined + number) (says_finished word || h.finished)

  -- so it does where the study was opened over this structure; and it never touches what is no part of the search
  pub record Steps : Type 0 where
    pub tops : h'.tops ≡ h.tops
    pub best : h'.best ≡ h.best
    pub vectors : h'.vectors ≡ h.vectors
    pub rows : h'.rows ≡ h.rows
    pub examines : Searches s h → Stepped

-- ## Figures and show

-- figures refuses a level that the structure does not have
abbrev pub figures_answer : Held → ℕ → Answer Figures
figures_answer h j = first_refusal ((outside j h.best, 30) ∷ []) (figures_from h j)

-- the entries of one side
abbrev pub list_of : Held → Side → List Entry
list_of h path_list = h.paths
list_of h cut_list = h.cuts

-- what stands past the end of a list
abbrev pub no_entry : Entry
no_entry = record { vector = []; first = 0; last = 0 }

-- entry k of one side, counted from 1
abbrev pub shown_entry : Held → Side → ℕ → Entry
shown_entry h d k = slice_index_or (list_of h d) (k - 1) no_entry

-- show refuses an entry that is not there and a row of another length
abbrev pub show_answer : Held → Side → ℕ → (row : List ℕ) → Answer (ℕ × ℕ)
show_answer h d k row = first_refusal
    ((outside k (length (list_of h d)), 31) ∷ (not (length row == length h.tops), 32) ∷ [])
    ((shown_entry h d k).first, (shown_entry h d k).last)

-- both change nothing that the study holds; show writes the entry's vector over the row, and after a refusal leaves it
abbrev pub Answers : Held → ℕ → Answer Figures → Type 0
Answers h j a = a ≡ figures_answer h j

abbrev pub Shows : Held → Side → ℕ → (row : List ℕ) → Answer (ℕ × ℕ) → (row-after : List ℕ) → Type 0
Shows h d k row a row' = (a ≡ show_answer h d k row) × (row' ≡ cond (accepted a) (shown_entry h d k).vector row)

-- the query answered what its rule fixes
abbrev pub Answered : Held → Query → Type 0
Answered h (figures j a) = Answers h j a
Answered h (show d k row a row') = Shows h d k row a row'
