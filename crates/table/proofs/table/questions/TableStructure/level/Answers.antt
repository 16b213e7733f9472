-- The number of a vector is below the number of levels.
use Rattle.std.proofs.Common.{arith}
use Rattle.table.proofs.Horner.{number_below}
use Rattle.table.specs.Passed.{table_long}
use Rattle.table.proofs.table.questions.TableStructure.level.Goals as goal

pub bounds-self-number : goal.bounds-self-number
bounds-self-number c =
    let t = c.args.self.now in
    omega (
      arith,
      number_below t.tops.now c.args.vector.now c.in_ok-number.number c.in_ok-number.ensures,
      table_long t.tops.now t.best t.tags.now t.levels.now t.passes,
    )
