-- What a study promises after any use, for a level that figures is asked for. Assumes nothing.
use Rattle.std.specs.Prelude.{◌≡◌, ℕ, ◌-◌, ◌*◌, ◌<◌, ◌≤◌, true, cond, ◌↔◌, length}
use Rattle.share.specs.Shares.{D, exact, AtMost, AtLeast, LessBelow, LessAbove}
use Rattle.structure.specs.Refusals.{Answer, refused, given}
use Rattle.structure.specs.Shape.{vector_count}
use Rattle.structure.specs.Minimal.{MinimalPath, MinimalCut}
use Rattle.structure.specs.Listing.{Holds, Complete}
use Rattle.probability.specs.Runs.{World, Distinct, whole_weight}
use Rattle.promise.specs.Figures.{up_at, down_at, of_level}
use Rattle.promise.specs.Use.{Use, Figures, shape_of, examined, is_finished}
use Rattle.promise.specs.Held.{Held}
use Rattle.promise.specs.Calls.{Answers}
use Rattle.promise.specs.InForce.{left_by, tags_below, carried_rows, paths_found, cuts_found, low_by, high_by, figures_of}
use Rattle.promise.specs.Rules.{Ruled, Lived}
use Rattle.promise.specs.Honest.{keeps, never_reaches, Honest, RunsBear}

-- the entries that each figure's distance counts: one until the search is finished
abbrev pub low_records : Use → ℕ → ℕ
low_records u j = cond (is_finished u) (length (of_level j (cuts_found u))) 1

abbrev pub high_records : Use → ℕ → ℕ
high_records u j = cond (is_finished u) (length (of_level j (paths_found u))) 1

-- what holds of the figures a that a use u answers for the level j
pub record Promise (u : Use) (j : ℕ) (a : Figures) : Type 0 where
  -- every call of the use and of its modules answered what its rule fixes, as each step its number and its word, and a
  -- are the figures that the definitions give
  pub ruled : Ruled u
  pub defined : a ≡ figures_of u j
  -- in every world by whose diaries the shares in force are honest, the joint runs bear out that at least low keep the
  -- level, and that at least D less high never reach it; and the runs weigh more than zero, so that the true share, whose
  -- denominator is their weight, is a number
  pub low_sound : (w : World) → Honest w u → Distinct (tags_below u) → RunsBear w (tags_below u) a.low (keeps u w j)
  pub high_sound : (w : World) → Honest w u → Distinct (tags_below u) → RunsBear w (tags_below u) (D - a.high) (never_reaches u w j)
  pub some_runs : (w : World) → Honest w u → 0 < whole_weight w (tags_below u)
  -- a carry of the use sets the level's two shares to low and to D less high
  pub carried_up : up_at (carried_rows u) j ≡ a.low
  pub carried_down : down_at (carried_rows u) j ≡ D - a.high
  -- low is at most its exact figure and high at least its own, each by less than one for each component, and once
  -- finished, for each component and entry
  pub low_under : AtMost a.low (low_by exact u j)
  pub high_over : AtLeast a.high (high_by exact u j)
  pub low_near : LessBelow (length (shape_of u).tops * low_records u j) a.low (low_by exact u j)
  pub high_near : LessAbove (length (shape_of u).tops * high_records u j) a.high (high_by exact u j)
  -- the lists hold exactly the minimal vectors met so far
  pub met : examined u ≤ vector_count (shape_of u).tops
  pub paths_held : Holds (shape_of u) (MinimalPath (shape_of u)) (examined u) (paths_found u)
  pub cuts_held : Holds (shape_of u) (MinimalCut (shape_of u)) (examined u) (cuts_found u)
  -- a search is finished once it has met all vectors, and no sooner; then its lists hold all minimal ones
  pub finished_means : is_finished u ≡ true ↔ examined u ≡ vector_count (shape_of u).tops
  pub paths_complete : is_finished u ≡ true → Complete (shape_of u) (MinimalPath (shape_of u)) (paths_found u)
  pub cuts_complete : is_finished u ≡ true → Complete (shape_of u) (MinimalCut (shape_of u)) (cuts_found u)

-- the main theorem: after every use whose calls answered what their rules fix, and for every level
abbrev pub Stands : Type 0
Stands = (u : Use) → Ruled u → (j : ℕ) → 1 ≤ j → j ≤ (shape_of u).best → Promise u j (figures_of u j)

-- ## For a study in the hand

-- P holds of what the call gave, if it gave something
abbrev pub given_by : {A : Type 0} → Answer A → (A → Type 0) → Type 0
given_by (refused n) P = Unit {0}
given_by (given a) P = P a

-- what holds of the answer of figures for the level j, by a study that holds h: whatever its whole use has been, it holds
-- what that use leaves, and the figures keep the promise
abbrev pub Promised : Held → ℕ → Answer Figures → Type 0
Promised h j a = (u : Use) → Lived u h → (h ≡ left_by u) × given_by a (Promise u j)

-- and it holds of every such answer
abbrev pub KeepsPromise : Type 0
KeepsPromise = (h : Held) (j : ℕ) (a : Answer Figures) → Answers h j a → Promised h j a
