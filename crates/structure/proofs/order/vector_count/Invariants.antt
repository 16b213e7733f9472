-- What the loop keeps: the product so far is small, and times the count of the tops to come it is the count of all.
use Rattle.std.proofs.Common.{◌≡◌, ◌*◌, ◌≤◌, drop}
use Rattle.structure.specs.Shape.{vector_count}
use Rattle.structure.proofs.order.vector_count.Given as goal

abbrev pub invariant-loop-top : goal.invariant-loop-top
invariant-loop-top l = (l.count ≤ 65536) × (l.count * vector_count (drop l.top-index l.tops) ≡ vector_count l.tops)
