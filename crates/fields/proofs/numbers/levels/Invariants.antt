use Rattle.std.proofs.Common.{◌≡◌, ◌-◌, ◌++◌, length, map, vec_items}
use Rattle.fields.specs.Numbers.{every, is_level}
use Rattle.fields.proofs.numbers.levels.Given as goal

-- the bytes so far are levels, and stand before those of the rest
abbrev pub invariant-loop-left : goal.invariant-loop-left
invariant-loop-left l = record {
  levels : every is_level l.text ≡ every is_level l.left;
  values : map (λ b. b - 48) l.text ≡ vec_items l.all ++ map (λ b. b - 48) l.left;
}

abbrev pub decreases-loop-left : goal.decreases-loop-left
decreases-loop-left l = length l.left
