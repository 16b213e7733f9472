-- The main theorem, on uses and on studies, for the contract of promise_stands.
use Rattle.promise.proofs.Stands.{stands}
use Rattle.promise.proofs.Promised.{promised}
use Rattle.promise.proofs.Shown.{shows_met}
use Rattle.promise.proofs.promise_stands.Goals as goal

pub returns : goal.returns
returns c = record { stands = stands; kept = promised; shown = shows_met }
