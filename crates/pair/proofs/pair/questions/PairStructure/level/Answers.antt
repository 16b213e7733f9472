-- A vector shorter than the front, and one that is split.
use Rattle.std.proofs.Common.{arith}
use Rattle.pair.proofs.Levels.{level_short, level_split}
use Rattle.pair.proofs.pair.questions.PairStructure.level.Goals as goal

pub returns-then-vector-front : goal.returns-then-vector-front
returns-then-vector-front g c =
    let p = c.args.self.now in
    level_short p.join (g.A.Structure.shape p.first) (g.B.Structure.shape p.second) c.args.vector.now
    c.in-Ok.field-0 c.in-Ok.ensures (omega arith)

pub returns : goal.returns
returns g c =
    let p = c.args.self.now in
    level_split p.join (g.A.Structure.shape p.first) (g.B.Structure.shape p.second) c.args.vector.now
    c.in-Ok.field-0 c.in-Ok.ensures c.split_level.result c.split_level.ensures
