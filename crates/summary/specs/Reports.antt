-- What the report of a text says. Assumes nothing.
use Rattle.std.specs.Prelude.{◌≡◌, ℕ, ◌≤◌, List, ◌++◌}
use Rattle.promise.specs.Use.{Word, still_open}
use Rattle.promise.specs.Held.{levels_to}
use Rattle.promise.specs.InForce.{in_force, figures_of}
use Rattle.promise.specs.Rules.{Ruled}
use Rattle.promise.specs.Promise.{Promise}
use Rattle.casetext.specs.Readings.{Reading, fault, read}
use Rattle.casetext.specs.Case.{Content}
use Rattle.summary.specs.Lines.{fault_lines, search_line, all_lines}
use Rattle.summary.specs.Uses.{use_of}

-- out says how the search of a case ended, and the figures of its levels from 1 to the best
pub record Reported (c : Content) (out : List ℕ) : Type 0 where
  -- the search examined so many vectors and ended so, for want of vectors or of room, never of budget
  pub number : ℕ
  pub word : Word
  pub ended : word ≡ still_open → ⊥
  -- every call of the study's use answered what its rule fixes, the step with this number and word
  pub ruled : Ruled (use_of c number word)
  -- in force are the rows of the case
  pub rows : in_force (use_of c number word) ≡ c.rows
  -- these are the lines, byte for byte
  pub lines : out ≡ search_line word ++ all_lines (figures_of (use_of c number word)) (levels_to c.best)
  -- and the figures keep what a study promises of them
  pub promised : (j : ℕ) → 1 ≤ j → j ≤ c.best → Promise (use_of c number word) j (figures_of (use_of c number word) j)

-- of a text with a fault its number and its line, else the report of its case
abbrev pub Reports : Reading Content → List ℕ → Type 0
Reports (fault number line) out = out ≡ fault_lines number line
Reports (read c) out = Reported c out
