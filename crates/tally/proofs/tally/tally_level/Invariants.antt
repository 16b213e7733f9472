-- The tally of the records so far.
use Rattle.std.proofs.Common.{◌≡◌, ◌≤◌, List, length, take, Some}
use Rattle.share.specs.Shares.{rounded}
use Rattle.structure.specs.Minimal.{Entry}
use Rattle.promise.specs.Figures.{best_of, all_of}
use Rattle.tally.specs.Model.{shares_by, entries_at}
use Rattle.tally.specs.declared.reading.Reading.{Reading}
use Rattle.tally.proofs.tally.tally_level.Given as goal

abbrev pub invariant-loop-entry : goal.invariant-loop-entry
invariant-loop-entry l =
    let so_far : List Entry = entries_at l.level l.rows (take l.entry-index l.records) in
    record {
      best : l.best ≡ best_of rounded (shares_by l.best_by l.rows) so_far;
      by_same : l.all_by ≡ l.initial.all_by;
      all : (by : Reading) → l.initial.all_by ≡ Some by → l.all ≡ all_of rounded (shares_by by l.rows) so_far;
      count : l.count ≡ length so_far;
      few : l.count ≤ l.entry-index;
    }
