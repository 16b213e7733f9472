-- A joint run through a study, and the diaries by which its shares in force are honest. Assumes nothing.
use Rattle.std.specs.Prelude.{◌≡◌, ℕ, zero, suc, ◌*◌, ◌<◌, ◌≤◌, Bool, true, ◌&&◌, List, length, MatchBool, ◌==◌, nat_le, nat_lt, slice_index, slice_index_or}
use Rattle.share.specs.Shares.{D}
use Rattle.structure.specs.Refusals.{accepted}
use Rattle.structure.specs.Shape.{top_at}
use Rattle.probability.specs.Runs.{History, Diary, World, Run, weight_of, weight_where, stays, stays_below, weight_of_runs, whole_weight}
use Rattle.promise.specs.Figures.{Rows, no_shares, up_at, down_at}
use Rattle.promise.specs.Use.{Use, opened, entered, carried, stepped, asked, shape_of, tag_at}
use Rattle.promise.specs.InForce.{ranks_at}

-- ## A run through a study

-- the structure's level at a moment of a run
abbrev pub level_at : Use → Run → ℕ → ℕ
level_at u run t = (shape_of u).level (ranks_at u run t)

-- the test passes at each of the moments
abbrev pub at_every : ℕ → (ℕ → Bool) → Bool
at_every zero p = true
at_every (suc t) p = at_every t p && p t

-- the run is at level j or higher at every moment; it is below level j at every moment
abbrev pub keeps : Use → World → ℕ → Run → Bool
keeps u w j run = at_every w.moments (λ t. nat_le j (level_at u run t))

abbrev pub never_reaches : Use → World → ℕ → Run → Bool
never_reaches u w j run = at_every w.moments (λ t. nat_lt (level_at u run t) j)

-- ## Honest shares

-- the diary bears the share q out: at least q of D of its weight is of histories that pass the test
abbrev pub DiaryBears : Diary → ℕ → (List ℕ → Bool) → Type 0
DiaryBears d q p = q * weight_of d ≤ D * weight_where p d

-- the tag's diary fits a component with this top: every history has a rank for each moment, none over the top, and
-- the weights add up to more than zero
pub record DiaryFits (w : World) (tag top : ℕ) : Type 0 where
  pub some : 0 < weight_of (w.diary tag)
  pub long : (k : ℕ) (d : History) → k < length (w.diary tag) → length (slice_index_or (w.diary tag) k d).ranks ≡ w.moments
  pub fits : (k t : ℕ) (d : History) → k < length (w.diary tag) → t < w.moments → slice_index (slice_index_or (w.diary tag) k d).ranks t ≤ top

-- rows that say no more than the diary shows
pub record HonestRows (w : World) (tag top : ℕ) (r : Rows) : Type 0 where
  pub diary : DiaryFits w tag top
  pub up : (s : ℕ) → 1 ≤ s → s ≤ top → DiaryBears (w.diary tag) (up_at r s) (stays s)
  pub down : (s : ℕ) → 1 ≤ s → s ≤ top → DiaryBears (w.diary tag) (down_at r s) (stays_below s)

-- the rows in force of component i are honest: of its own diary, or, where a module was carried, by the module's
-- rows having been honest at the carry
abbrev pub HonestAt : World → Use → ℕ → Type 0
HonestAt w (opened s tags) i = HonestRows w (tag_at (opened s tags) i) (top_at s i) (no_shares (top_at s i))
HonestAt w (entered u k r a) i =
    MatchBool (accepted a && i == k) (HonestRows w (tag_at u i) (top_at (shape_of u) i) r) (HonestAt w u i)
HonestAt w (carried u k m a) i =
    MatchBool (accepted a && i == k) ((c : ℕ) → 1 ≤ c → c ≤ length (shape_of m).tops → HonestAt w m c) (HonestAt w u i)
HonestAt w (stepped u b k x) i = HonestAt w u i
HonestAt w (asked u q) i = HonestAt w u i

-- diaries by which the shares in force are honest
pub record Honest (w : World) (u : Use) : Type 0 where
  pub moments : 1 ≤ w.moments
  pub each : (i : ℕ) → 1 ≤ i → i ≤ length (shape_of u).tops → HonestAt w u i

-- the joint runs of the tags bear the share q out: at least q of D of their weight is of runs that pass the test
abbrev pub RunsBear : World → List ℕ → ℕ → (Run → Bool) → Type 0
RunsBear w tags q p = q * whole_weight w tags ≤ D * weight_of_runs w tags p
