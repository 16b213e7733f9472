-- The product so far, times the count of the tops to come, is the count of all.
use Rattle.std.proofs.Common.{◌-◌}
use Rattle.structure.proofs.Count.{Product}
use Rattle.structure.proofs.interface.Structure.vectors.Given as goal

abbrev pub invariant-loop-component : goal.invariant-loop-component
invariant-loop-component g l = Product (g.Self.Structure.shape l.self).tops (l.component - 1) l.count
