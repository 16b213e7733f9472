use Rattle.std.proofs.Common.{◌≡◌, ◌+◌, ◌*◌, ◌++◌, map, drop, vec_items}
use Rattle.fields.specs.Readings.{read, and_then}
use Rattle.casetext.specs.Case.{all_rows}
use Rattle.casetext.specs.Contents.{rows_of}
use Rattle.casetext.proofs.rows.rows.Given as goal

-- the rows so far stand before those of the tops that are left
abbrev pub invariant-loop-i : goal.invariant-loop-i
invariant-loop-i l =
    all_rows 6 l.tops l.text
    ≡ and_then (all_rows (6 + 2 * l.i) (drop l.i l.tops) l.left) (λ more. read (map rows_of (vec_items l.all) ++ more.0, more.1))
