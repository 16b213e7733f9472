-- Rounds, for the contract of rounding_stands.
use Rattle.share.proofs.Rounding.{rounds}
use Rattle.share.proofs.theory.rounding_stands.Goals as goal

pub returns : goal.returns
returns c = rounds
