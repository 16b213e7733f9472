-- The ranks before this one are within the tops, and stand for the number so far.
use Rattle.std.specs.Slice.Iter.{iter_rest}
use Rattle.std.specs.Iterator.Adapters.{zip_first, zip_second}
use Rattle.table.proofs.Horner.{Read}
use Rattle.table.proofs.vector_number.number_of.Given as goal

abbrev pub invariant-loop-rank : goal.invariant-loop-rank
invariant-loop-rank l =
    Read l.tops l.vector (iter_rest (zip_second l.rank-iterator)) (iter_rest (zip_first l.rank-iterator)) l.number
