-- What is kept, and how much more may come.
use Rattle.std.proofs.Common.{◌-◌, ◌≤◌, vec_len}
use Rattle.report.proofs.input.Given as goal

abbrev pub invariant-loop-part : goal.invariant-loop-part
invariant-loop-part g l = vec_len l.text ≤ 65537

abbrev pub decreases-loop-part : goal.decreases-loop-part
decreases-loop-part g l = 65537 - vec_len l.text
