-- The highest level among the components so far.
use Rattle.std.proofs.Common.{◌≡◌, T}
use Rattle.structure.specs.Shape.{within}
use Rattle.structure.proofs.Neighbourhood.{highest_to}
use Rattle.study.proofs.neighbours.Vector.highest_below.Given as goal

abbrev pub invariant-loop-i : goal.invariant-loop-i
invariant-loop-i g l =
    let s = g.S.Structure.shape l.structure in
    T (within s.tops l.self.ranks.now) → l.highest ≡ highest_to s.level l.self.ranks.now l.i
