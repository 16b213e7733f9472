use Rattle.std.proofs.Common.{append_assoc, arith}
use Rattle.std.proofs.lemmas.Grind.{common_steps}
use Rattle.std.proofs.lemmas.List.{drop_more, map_push}
use Rattle.casetext.specs.Contents.{rows_of}
use Rattle.casetext.proofs.rows.rows.Goals as goal

pub loop-i-preserved : goal.loop-i-preserved
loop-i-preserved c =
    let next = drop_more c.args.tops.now c.loop-i.i 0 c.loop-i-test.true in
    let pushed = map_push rows_of (c.loop-i.all.items) c.in_ok-shares.shares in
    grind (arith, common_steps, append_assoc)
