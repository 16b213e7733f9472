-- What a row of the code keeps, through which every clause sees it. Assumes nothing.
use Rattle.tally.specs.Places.{Places}
use Rattle.tally.specs.declared.row.Row.TheInside.{Inside}

abbrev pub kept : Inside → Places
kept r = record { top = r.top; up = r.up; down = r.down }
