-- What a row of the code keeps. Assumes nothing.
use Rattle.std.specs.Prelude.{ℕ, List}

-- the top of the component, and a place for the share of each of seven ranks, of which as many count as the top says
pub record Places : Type 0 where
  pub top : ℕ
  pub up : List ℕ
  pub down : List ℕ
