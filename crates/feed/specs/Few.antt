-- What a short row holds. Assumes nothing.
use Rattle.std.specs.Prelude.{ℕ, List, take}
use Rattle.feed.specs.declared.few.Few.{Few}

-- the values in the places that count
abbrev pub held_in : {T : Type 0} {N : ℕ} → Few T N → List T
held_in f = take f.len f.items
