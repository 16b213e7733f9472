-- What is left of the vector and the tops, and the lowest level among the components so far.
use Rattle.std.proofs.Common.{◌≡◌, T}
use Rattle.std.specs.Iterator.Adapters.{enumerate_source, enumerate_count, zip_first, zip_second}
use Rattle.std.specs.Slice.Iter.{iter_rest}
use Rattle.structure.specs.Shape.{within}
use Rattle.structure.proofs.Neighbourhood.{lowest_to}
use Rattle.study.proofs.Near.{Left}
use Rattle.study.proofs.neighbours.Vector.lowest_above.Given as goal

abbrev pub invariant-loop-i : goal.invariant-loop-i
invariant-loop-i g l =
    let s = g.S.Structure.shape l.structure in
    let i = enumerate_count l.i-iterator in
    let pairs = enumerate_source l.i-iterator in record {
      left : Left l.self.ranks.now l.tops i (iter_rest (zip_first pairs)) (iter_rest (zip_second pairs));
      lowest : l.tops ≡ s.tops → T (within s.tops l.self.ranks.now) → l.lowest ≡ lowest_to l.best s.level s.tops l.self.ranks.now i;
    }
