-- What a share of the code holds, through which every clause sees it. Assumes nothing.
use Rattle.std.specs.Prelude.{ℕ}
use Rattle.share.specs.declared.share.Share.TheInside.{Inside}

-- a share is its number of billionths
abbrev pub billionths_in : Inside → ℕ
billionths_in s = s.value
