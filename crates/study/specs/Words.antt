-- What the words of a step are called. Assumes nothing.
use Rattle.std.specs.Prelude.{ℕ, List, codes}
use Rattle.promise.specs.Use.{Word, finished, full, still_open}

-- the bytes of a word
abbrev pub word_text : Word → List ℕ
word_text finished = codes "finished"
word_text full = codes "full"
word_text still_open = codes "open"
