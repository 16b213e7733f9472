use Rattle.std.proofs.Common.{◌≡◌, ◌≤◌, length}
use Rattle.fields.specs.Numbers.{digits_in}
use Rattle.fields.proofs.numbers.digits.Given as goal

-- what is left, read after the value so far, gives the number
abbrev pub invariant-loop-left : goal.invariant-loop-left
invariant-loop-left l = (l.value ≤ 4294967295) × (digits_in 0 l.text ≡ digits_in l.value l.left)

abbrev pub decreases-loop-left : goal.decreases-loop-left
decreases-loop-left l = length l.left
