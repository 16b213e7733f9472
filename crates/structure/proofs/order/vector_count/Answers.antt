-- The product goes on with each top, is at most the count, and is the count at the end.
use Rattle.std.proofs.Common.{◌+◌, ◌*◌, arith}
use Rattle.structure.proofs.Count.{Product, product_more, product_least, many}
use Rattle.structure.proofs.order.vector_count.Goals as goal
use Rattle.structure.proofs.order.vector_count.Goals.{After-from}

-- one more top
more : (c : After-from) → Product c.args.tops.now (c.loop-top.top-index + 1) (c.loop-top.count * (c.from.result + 1))
more c = product_more c.args.tops.now c.loop-top.top-index c.loop-top.count c.from.result (omega arith) c.loop-top.invariant.1 c.from.ensures

pub returns-then-count-gt-MOST_VECTORS : goal.returns-then-count-gt-MOST_VECTORS
returns-then-count-gt-MOST_VECTORS c =
    let m = more (goal.at.returns-then-count-gt-MOST_VECTORS c).After-from in
    many c.args.tops.now (omega (arith, product_least c.args.tops.now (c.loop-top.top-index + 1) _ m))

pub loop-top-preserved : goal.loop-top-preserved
loop-top-preserved c = (omega arith, more (goal.at.loop-top-preserved c).After-from)
