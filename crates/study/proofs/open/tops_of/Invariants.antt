-- The tops of the components so far.
use Rattle.std.proofs.Common.{◌≡◌, ◌-◌, take, vec_items}
use Rattle.study.proofs.open.tops_of.Given as goal

abbrev pub invariant-loop-component : goal.invariant-loop-component
invariant-loop-component g l = vec_items l.tops ≡ take (l.component - 1) (g.S.Structure.shape l.structure).tops
