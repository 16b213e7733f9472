-- What the values of the code stand for: words, lists and answers. Assumes nothing.
use Rattle.std.specs.Prelude.{ℕ, List}
use Rattle.promise.specs.Use.{Word, finished, full, still_open, Side, path_list, cut_list, Figures}
use Rattle.promise.specs.Held.{Held, first_held}
use Rattle.study.specs.declared.side.Side.TheVariants.{Paths, Cuts}
use Rattle.study.specs.declared.side.Side.{Side as ListSide}
use Rattle.study.specs.declared.word.Word.TheVariants.{Finished, Full, Open}
use Rattle.study.specs.declared.word.Word.{Word as StepWord}

-- how a step ended
abbrev pub word_of : StepWord → Word
word_of Finished = finished
word_of Full = full
word_of Open = still_open

-- which list is asked for
abbrev pub side_of : ListSide → Side
side_of Paths = path_list
side_of Cuts = cut_list

-- the two figures and the two counts
abbrev pub figures_in : ℕ × ℕ × ℕ × ℕ → Figures
figures_in a = record { low = a.0; high = a.1; paths = a.2; cuts = a.3 }

-- what is held at the open of a study with these tops and this best level
abbrev pub fresh : List ℕ → ℕ → Held
fresh tops best = first_held (record { tops = tops; best = best; level = λ _. 0 })
