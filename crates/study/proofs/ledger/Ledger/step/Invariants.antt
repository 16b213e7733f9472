-- The step is underway, and each turn counts one vector more.
use Rattle.std.proofs.Common.{◌≡◌, ◌+◌}
use Rattle.study.proofs.Steps.{Goes}
use Rattle.study.proofs.ledger.Ledger.step.Given as goal

abbrev pub invariant-loop-number : goal.invariant-loop-number
invariant-loop-number g l = record {
  goes : Goes (g.S.Structure.shape l.structure) l.initial.self l.budget l.number l.self;
  counted : l.self.examined ≡ l.initial.self.examined + l.number;
}
