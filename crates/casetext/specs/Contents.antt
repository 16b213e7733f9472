-- What a case holds. Assumes nothing.
use Rattle.std.specs.Prelude.{map, vec_items}
use Rattle.promise.specs.Figures.{Rows}
use Rattle.casetext.specs.declared.case.Case.{Case}
use Rattle.casetext.specs.declared.case.Shares.{Shares}
use Rattle.casetext.specs.Case.{Content}

-- what a component's shares hold
abbrev pub rows_of : Shares → Rows
rows_of s = record { up = vec_items s.up; down = vec_items s.down }

-- what a case holds
abbrev pub content_of : Case → Content
content_of c = record {
  tops = vec_items c.tops;
  best = c.best;
  tags = vec_items c.tags;
  levels = vec_items c.levels;
  rows = map rows_of (vec_items c.rows);
}
