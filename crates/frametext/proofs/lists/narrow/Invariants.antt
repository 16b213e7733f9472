use Rattle.std.proofs.Common.{◌≡◌, take, drop, vec_items}
use Rattle.structure.specs.Conditions.{any_outside}
use Rattle.frametext.proofs.lists.narrow.Given as goal

-- the numbers so far are pushed, and the rest decides whether one is outside
abbrev pub invariant-loop-n : goal.invariant-loop-n
invariant-loop-n l = record {
  pushed : vec_items l.tops ≡ take l.n-index l.numbers;
  outside : any_outside 7 l.numbers ≡ any_outside 7 (drop l.n-index l.numbers);
}
