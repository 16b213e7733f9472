-- How large a pair is whose parts fit. Assumes nothing.
use Rattle.std.specs.Prelude.{◌+◌, ◌++◌, length}
use Rattle.structure.specs.Shape.{Shape, vector_count}
use Rattle.structure.specs.Refusals.{Answer, first_refusal}
use Rattle.pair.specs.declared.measure.Size.{Size}
use Rattle.pair.specs.Fit.{pair_tests}

-- the components of the first, the components of both, and the vectors of both
abbrev pub size_of : Shape → Shape → Size
size_of a b = record {
  front = length a.tops;
  components = length a.tops + length b.tops;
  vectors = vector_count (a.tops ++ b.tops);
}

-- the size, or the number of the first test that fails
abbrev pub measured : Shape → Shape → Answer Size
measured a b = first_refusal (pair_tests a b) (size_of a b)
