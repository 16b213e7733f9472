use Rattle.std.proofs.Common.{◌≡◌, ◌-◌, ◌≤◌, ◌++◌, length, take, drop}
use Rattle.std.specs.Option.{option_map}
use Rattle.fields.specs.Lines.{cut}
use Rattle.fields.proofs.cut.cut.Given as goal

-- the bytes that were passed stand before what is left, and hold no mark
abbrev pub invariant-loop-left : goal.invariant-loop-left
invariant-loop-left l = record {
  shorter : length l.left ≤ length l.text;
  left : l.left ≡ drop (length l.text - length l.left) l.text;
  same : cut l.mark l.text ≡ option_map (λ h. (take (length l.text - length l.left) l.text ++ h.0, h.1)) (cut l.mark l.left);
}

abbrev pub decreases-loop-left : goal.decreases-loop-left
decreases-loop-left l = length l.left
