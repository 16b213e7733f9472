-- What the radio is, in the words of its maker: two transmitters, the components 1 and 2, and a relay chain of three parts,
-- 3 to 5, each with the ranks 0 and 1. Assumes nothing.
use Rattle.std.specs.Prelude.{ℕ, ◌-◌, Bool, if◌then◌else◌, ◌&&◌, ◌||◌, List, [], ◌∷◌, nat_le, slice_index}
use Rattle.structure.specs.Shape.{Shape}
use Rattle.radio.specs.declared.radio.Radio.{Radio}

-- whether component i, counted from 1, is up; one that the vector does not have counts as down
abbrev pub up : List ℕ → ℕ → Bool
up v i = nat_le 1 (slice_index v (i - 1))

-- level 2 where a transmitter is up, otherwise level 1 where all parts of the chain are up, else level 0
abbrev pub radio_level : List ℕ → ℕ
radio_level v = (if up v 1 || up v 2 then 2 else if up v 3 && up v 4 && up v 5 then 1 else 0)

-- the one fixed value from which every radio answers
abbrev pub radio_shape : Shape
radio_shape = record { tops = 1 ∷ 1 ∷ 1 ∷ 1 ∷ 1 ∷ []; best = 2; level = radio_level }

-- the tags that a radio was made with
abbrev pub radio_tags : Radio → List ℕ
radio_tags r = r.tags
