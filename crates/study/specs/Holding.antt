-- What a ledger of the code holds, through which every clause sees it. Assumes nothing.
use Rattle.std.specs.Prelude.{map, vec_items, vec_len}
use Rattle.promise.specs.Held.{Held}
use Rattle.tally.specs.Model.{rows_of, entry_of}
use Rattle.study.specs.declared.ledger.Ledger.TheInside.{Inside}

-- the tops and the rows in order, and of each record as many ranks as there are components
abbrev pub held : Inside → Held
held t = record {
  tops = vec_items t.tops;
  best = t.best;
  vectors = t.vectors;
  rows = map rows_of (vec_items t.rows);
  examined = t.examined;
  finished = t.finished;
  paths = map (entry_of (vec_len t.tops)) (vec_items t.paths);
  cuts = map (entry_of (vec_len t.tops)) (vec_items t.cuts);
}
