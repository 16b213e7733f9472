-- A lawful structure has low tops.
use Rattle.std.proofs.Common.{vec_items}
use Rattle.study.proofs.Opening.{tops_low}
use Rattle.study.proofs.study.Study.open.Goals as goal

pub open-requires-clause-low : goal.open-requires-clause-low
open-requires-clause-low g c =
    tops_low (g.S.Structure.shape c.args.structure) (vec_items c.in_ok-tops.tops) (g.met.S.Structure.lawful c.args.structure) c.in_ok-tops.ensures c.in_ok-tops.tops.ok.0
