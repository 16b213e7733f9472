-- One more component, one more vector, the first fall, and the end.
use Rattle.std.proofs.Common.{sym, arith}
use Rattle.std.proofs.lemmas.List.{drop_more, drop_all}
use Rattle.table.proofs.Climbs.{along_start, along_next, along_fell, along_end, left_next, left_fell, left_end}
use Rattle.table.proofs.falls.some_fall.Goals as goal
use Rattle.table.proofs.falls.some_fall.Goals.{else-rest-stride-via-then-rest-stride+else-levels-number, else-rest-stride-via-else-rest-stride}

pub loop-top-init : goal.loop-top-init
loop-top-init c = along_start c.args.tops.now c.args.levels.now c.loop-number.number c.requires (omega arith)

pub loop-top-preserved : goal.loop-top-preserved
loop-top-preserved c =
    let along = rw (drop_more c.args.tops.now c.loop-top.top-index 0 (omega arith)) at c.loop-top.invariant in
    along_next along (λ l. elim c.else-rest-stride.branch [
      | else-rest-stride-via-then-rest-stride+else-levels-number w ↦ omega arith
      | else-rest-stride-via-else-rest-stride w ↦ omega arith
    ])

pub loop-number-preserved : goal.loop-number-preserved
loop-number-preserved c =
    let along = rw (drop_all c.loop-top.top-index c.args.tops.now (omega arith)) at c.loop-top.invariant in
    left_next c.args.tops.now c.args.levels.now _ c.requires (omega arith) c.loop-number.invariant (along_end along)

pub returns-after-loop-number : goal.returns-after-loop-number
returns-after-loop-number c = sym (left_end c.args.tops.now c.args.levels.now _ c.requires (omega arith) c.loop-number.invariant)

pub returns-then-levels-number : goal.returns-then-levels-number
returns-then-levels-number c =
    let along = rw (drop_more c.args.tops.now c.loop-top.top-index 0 (omega arith)) at c.loop-top.invariant in
    sym (left_fell c.args.tops.now c.args.levels.now _ c.requires (omega arith) c.loop-number.invariant (along_fell along c.if-rest-stride.true c.if-levels-number.true))
