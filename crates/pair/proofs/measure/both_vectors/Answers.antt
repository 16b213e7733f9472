-- The vectors of both are the product of both numbers.
use Rattle.pair.specs.Parts.{count_append}
use Rattle.pair.proofs.measure.both_vectors.Goals as goal

pub returns : goal.returns
returns g c =
    let e = count_append (g.A.Structure.shape c.args.first.now).tops (g.B.Structure.shape c.args.second.now).tops in
    cc
