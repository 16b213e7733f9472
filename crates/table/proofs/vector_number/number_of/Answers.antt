-- Another length, and one more rank.
use Rattle.std.proofs.Common.{arith}
use Rattle.table.proofs.Horner.{read_room, read_next, number_long}
use Rattle.table.proofs.vector_number.number_of.Goals as goal

pub returns-then-vector-tops : goal.returns-then-vector-tops
returns-then-vector-tops c = number_long c.args.tops.now c.args.vector.now c.if-vector-tops.true

pub overflow_mul-number : goal.overflow_mul-number
overflow_mul-number c = omega (arith, read_room c.loop-rank.invariant c.in-Some.ensures.steps (omega arith))

pub overflow_add-number-in-loop-rank : goal.overflow_add-number-in-loop-rank
overflow_add-number-in-loop-rank c = omega (arith, read_room c.loop-rank.invariant c.in-Some.ensures.steps (omega arith))

pub loop-rank-preserved : goal.loop-rank-preserved
loop-rank-preserved c = read_next c.loop-rank.invariant c.in-Some.ensures.steps (omega arith)
