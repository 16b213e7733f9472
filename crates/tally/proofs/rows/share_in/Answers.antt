-- The number is not over the whole.
use Rattle.std.proofs.Common.{◌≤◌, get_or, arith}
use Rattle.std.proofs.lemmas.Grind.{common_steps}
use Rattle.share.specs.Shares.{D}
use Rattle.tally.proofs.Made.{none_over}
use Rattle.tally.proofs.rows.share_in.Goals as goal

pub returns : goal.returns
returns c =
    let fits : get_or c.args.row.now c.args.place 0 ≤ D = none_over D c.args.row.now c.args.place c.requires in
    grind (arith, common_steps)
