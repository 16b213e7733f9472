-- The ranks from the last component on, and what the components before them have to share.
use Rattle.std.proofs.Common.{◌≡◌, length, take}
use Rattle.std.specs.Iterator.Adapters.{rev_source, enumerate_source, enumerate_count}
use Rattle.std.specs.Slice.Iter.{iter_rest}
use Rattle.study.proofs.Digits.{RanksFrom}
use Rattle.study.proofs.vectors.vector_of.Given as goal

abbrev pub invariant-loop-i : goal.invariant-loop-i
invariant-loop-i l =
    let rest = iter_rest (enumerate_source (rev_source l.i-iterator)) in record {
      none : enumerate_count (rev_source l.i-iterator) ≡ 0;
      tops : rest ≡ take (length rest) l.tops;
      ranks : RanksFrom l.tops l.vector l.number (length rest) l.left;
    }
