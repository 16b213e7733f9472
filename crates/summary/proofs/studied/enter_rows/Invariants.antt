-- The rows so far are entered, and the components and the structure are those at the start.
use Rattle.std.proofs.Common.{◌≡◌, map, take}
use Rattle.promise.specs.Use.{Use}
use Rattle.promise.specs.Rules.{Lived}
use Rattle.casetext.specs.Contents.{rows_of}
use Rattle.summary.specs.Uses.{then_entered}
use Rattle.summary.proofs.studied.enter_rows.Given as goal

abbrev pub invariant-loop-i : goal.invariant-loop-i
invariant-loop-i g l =
    ((u : Use) → Lived u l.initial.study.ledger → Lived (then_entered u 1 (take l.i (map rows_of l.rows))) l.study.ledger)
    × (l.study.ledger.tops ≡ l.initial.study.ledger.tops)
    × (l.study.structure ≡ l.initial.study.structure)
