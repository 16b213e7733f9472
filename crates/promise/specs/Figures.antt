-- The two figures of a level, written once: over whole numbers they are what the study answers, over fractions
-- the exact figures. Assumes nothing.
use Rattle.std.specs.Prelude.{ℕ, zero, suc, Bool, cond, List, [], ◌∷◌, map, replicate, filter, slice_index, slice_index_or}
use Rattle.share.specs.Shares.{D, Arithmetic, product_down, largest, share_of_all, share_of_any}
use Rattle.structure.specs.Minimal.{Entry, covers}

-- ## Shares of a vector

-- a component's two rows of shares, for the ranks from 1 to its top
pub record Rows : Type 0 where
  pub up : List ℕ
  pub down : List ℕ

-- rows that say nothing
abbrev pub no_shares : ℕ → Rows
no_shares top = record { up = replicate top 0; down = replicate top 0 }

-- the share that stays at the rank or higher; the share that stays below it
abbrev pub up_at : Rows → ℕ → ℕ
up_at r zero = D
up_at r (suc k) = slice_index r.up k

abbrev pub down_at : Rows → ℕ → ℕ
down_at r zero = 0
down_at r (suc k) = slice_index_or r.down k D

-- a share of each component, at the rank that the vector gives it, or one rank over that
abbrev pub shares_at : (Rows → ℕ → ℕ) → List Rows → List ℕ → List ℕ
shares_at at [] v = []
shares_at at (r ∷ rows) [] = []
shares_at at (r ∷ rows) (x ∷ v) = at r x ∷ shares_at at rows v

abbrev pub shares_over : (Rows → ℕ → ℕ) → List Rows → List ℕ → List ℕ
shares_over at = shares_at (λ r x. at r (suc x))

-- ## Figures of a list of entries

-- the entries that cover the level
abbrev pub of_level : ℕ → List Entry → List Entry
of_level j = filter (covers j)

module _ {V : Type 0} (A : Arithmetic V) where
  -- the best of the vectors alone
  abbrev pub best_of : (List ℕ → List ℕ) → List Entry → V
  best_of shares es = largest A (A.share 0) (map (λ e. share_of_all A (shares e.vector)) es)

  -- all of the vectors at once
  abbrev pub all_of : (List ℕ → List ℕ) → List Entry → V
  all_of shares es = product_down A (A.share D) (map (λ e. share_of_any A (shares e.vector)) es)

  -- once every vector is examined, the product over the other list counts too
  abbrev pub better : Bool → V → V → V
  better finished a b = cond finished (A.larger a b) a

  -- the low figure, from shares that components stay up; the high figure, from shares that they stay down
  abbrev pub low_figure : Bool → List Rows → List Entry → List Entry → V
  low_figure finished rows paths cuts =
      better finished (best_of (shares_at up_at rows) paths) (all_of (shares_over up_at rows) cuts)

  abbrev pub high_figure : Bool → List Rows → List Entry → List Entry → V
  high_figure finished rows paths cuts =
      A.rest (better finished (best_of (shares_over down_at rows) cuts) (all_of (shares_at down_at rows) paths))
