-- The structure answers for each vector one rank lower, and in the end the highest is that of all components.
use Rattle.std.proofs.Common.{Some, ap, arith}
use Rattle.study.proofs.Near.{lower_answered, highest_found}
use Rattle.study.proofs.neighbours.Vector.highest_below.Goals as goal

pub returns-in_err-level : goal.returns-in_err-level
returns-in_err-level g c here =
    let answered = lower_answered (g.S.Structure.shape c.args.structure.now) c.args.self.now.ranks.now c.loop-i.i here in
    let none = c.in_err-level.was in
    cc

pub returns : goal.returns
returns g c here = ap Some (highest_found (g.S.Structure.shape c.args.structure.now) c.args.self.now.ranks.now c.loop-i.i c.loop-i.highest (omega arith) (c.loop-i.invariant here))
