-- There is a vector, so the table has a first and a last level.
use Rattle.std.proofs.Common.{rules}
use Rattle.structure.proofs.Numbers.{count_pos}
use Rattle.table.proofs.check.check_levels.Goals as goal

pub returns-then-ne : goal.returns-then-ne
returns-then-ne c = search (rules, count_pos c.args.tops.now)
