-- The lines so far.
use Rattle.std.proofs.Common.{◌≡◌, ◌+◌, ◌-◌, ◌≤◌, ◌++◌, string_bytes}
use Rattle.promise.specs.Held.{figures_from, levels_to}
use Rattle.summary.specs.Lines.{all_lines}
use Rattle.summary.proofs.studied.study_lines.Given as goal

abbrev pub invariant-loop-level : goal.invariant-loop-level
invariant-loop-level g l =
    (1 ≤ l.level) × (l.level ≤ l.best + 1)
    × (string_bytes l.out ≡ string_bytes l.initial.out ++ all_lines (figures_from l.study.ledger) (levels_to (l.level - 1)))
