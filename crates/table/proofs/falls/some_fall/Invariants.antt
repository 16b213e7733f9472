-- No vector before this one falls, and none of its components before this one lowers the level.
use Rattle.std.proofs.Common.{drop}
use Rattle.structure.specs.Shape.{vectors}
use Rattle.table.specs.Table.{falls_at}
use Rattle.structure.proofs.Scan.{LeftAt}
use Rattle.table.proofs.Climbs.{Along}
use Rattle.table.proofs.falls.some_fall.Given as goal

abbrev pub invariant-loop-number : goal.invariant-loop-number
invariant-loop-number l = LeftAt (falls_at l.tops l.levels) (vectors l.tops) l.number

abbrev pub invariant-loop-top : goal.invariant-loop-top
invariant-loop-top l = Along l.tops l.levels l.number (drop l.top-index l.tops) l.stride l.rest
