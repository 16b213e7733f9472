-- The figures of the levels so far.
use Rattle.std.proofs.Common.{◌≡◌, ◌-◌, map, length, take}
use Rattle.share.specs.Shares.{D}
use Rattle.promise.specs.Held.{figures_from, levels_to}
use Rattle.study.proofs.ledger.Ledger.carried_rows.Given as goal

abbrev pub invariant-loop-level : goal.invariant-loop-level
invariant-loop-level l =
    record {
      up_long : length l.up ≡ 7;
      down_long : length l.down ≡ 7;
      up : take (l.level - 1) l.up ≡ map (λ j. (figures_from l.self j).low) (levels_to (l.level - 1));
      down : take (l.level - 1) l.down ≡ map (λ j. D - (figures_from l.self j).high) (levels_to (l.level - 1));
    }
