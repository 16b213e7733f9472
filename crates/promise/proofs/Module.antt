-- A component that a module of sound components was carried to is sound. Assumes nothing.
use Rattle.std.proofs.Common.{◌≡◌, ℕ, zero, suc, ◌-◌, ◌≤◌, sym, ap, subst, arith}
use Rattle.std.specs.List.{AllByRecursion}
use Rattle.share.specs.Shares.{D, rounded}
use Rattle.structure.proofs.Below.{level_best}
use Rattle.probability.specs.Runs.{World}
use Rattle.promise.specs.Figures.{up_at, down_at}
use Rattle.promise.specs.Use.{Use, shape_of}
use Rattle.promise.specs.InForce.{carrying, components, tags_below, ranks_at, carried_rows, low_by, high_by}
use Rattle.promise.specs.Rules.{Ruled}
use Rattle.promise.specs.Honest.{keeps, never_reaches, RunsBear}
use Rattle.promise.proofs.Rules.{lawful_shape}
use Rattle.promise.proofs.Levels.{row_at, row_length}
use Rattle.promise.proofs.Sound.{Sound, some_whole, ranks_local, up_past_top, down_past_top}
use Rattle.promise.proofs.Sides.{ranks_fit, low_encloses, high_encloses}

-- ## The rows that a module hands over

-- its rows are its figures
pub carried_up : (m : Use) (s : ℕ) → 1 ≤ s → s ≤ (shape_of m).best → up_at (carried_rows m) s ≡ low_by rounded m s
carried_up m zero one high = absurd (omega arith)
carried_up m (suc k) one high = row_at (low_by rounded m) (shape_of m).best k 0 high

pub carried_down : (m : Use) (s : ℕ) → 1 ≤ s → s ≤ (shape_of m).best → down_at (carried_rows m) s ≡ D - high_by rounded m s
carried_down m zero one high = absurd (omega arith)
carried_down m (suc k) one high = row_at (λ j. D - high_by rounded m j) (shape_of m).best k D high

-- ## The module as a component

module _ (w : World) (m : Use) (ruled : Ruled m) (a : AllByRecursion (Sound w) (components m)) where
  -- its figures are shares that its runs bear out
  pub carried_sound : Sound w (carrying m (components m) (shape_of m).best)
  carried_sound = record {
    local = λ r s same t. ap (shape_of m).level (ranks_local w r s t (components m) a same);
    fits = λ s held t early. level_best (shape_of m) (lawful_shape m ruled) (ranks_at m s t) (ranks_fit w m ruled a s held t early);
    some = some_whole w (components m) a;
    up = λ d s one high.
        subst (λ q. RunsBear w (tags_below m) q (keeps m w s)) (sym (carried_up m s one high)) (low_encloses w m ruled a d s one high);
    down = λ d s one high.
        subst (λ q. RunsBear w (tags_below m) q (never_reaches m w s)) (sym (carried_down m s one high)) (high_encloses w m ruled a d s one high);
    up_past = up_past_top (carried_rows m) (shape_of m).best (row_length (low_by rounded m) (shape_of m).best);
    down_past = down_past_top (carried_rows m) (shape_of m).best (row_length (λ j. D - high_by rounded m j) (shape_of m).best);
  }
