use Rattle.std.proofs.Common.{◌≡◌, ◌++◌, length, map, vec_items}
use Rattle.fields.specs.Numbers.{every, is_number, number_of_digits, pieces}
use Rattle.fields.proofs.numbers.numbers.Given as goal

-- the pieces so far are numbers, and their numbers stand before those of the rest
abbrev pub invariant-loop-piece : goal.invariant-loop-piece
invariant-loop-piece l = record {
  numbers : every is_number (pieces l.text) ≡ every is_number (pieces l.left);
  values : map number_of_digits (pieces l.text) ≡ vec_items l.all ++ map number_of_digits (pieces l.left);
}

abbrev pub decreases-loop-piece : goal.decreases-loop-piece
decreases-loop-piece l = length l.left
