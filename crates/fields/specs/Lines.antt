-- Cutting a text: at a byte, and a line into its key and its value. Assumes nothing.
use Rattle.std.specs.Prelude.{ℕ, if◌then◌else◌, List, [], ◌∷◌, Some, None, Option, ◌==◌}
use Rattle.std.specs.Option.{option_map}

-- a text in two parts
abbrev pub Halves : Type 0
Halves = List ℕ × List ℕ

-- the text before the first mark and the text after it, none where there is no mark
abbrev pub cut : ℕ → List ℕ → Option Halves
cut mark [] = None
cut mark (b ∷ bs) = (if b == mark then Some ([], bs) else option_map (λ h. (b ∷ h.0, h.1)) (cut mark bs))

-- what follows the front, none where the text begins otherwise
abbrev pub after_front : List ℕ → List ℕ → Option (List ℕ)
after_front [] bs = Some bs
after_front (f ∷ fs) [] = None
after_front (f ∷ fs) (b ∷ bs) = (if b == f then after_front fs bs else None)

-- the value of a line that begins with its key, beside the text after the line
abbrev pub keyed : List ℕ → Option Halves → Option Halves
keyed key None = None
keyed key (Some h) = option_map (λ value. (value, h.1)) (after_front key h.0)

-- the first line's value and the text after the line, none where no byte 10 ends it or it begins otherwise
abbrev pub line_with : List ℕ → List ℕ → Option Halves
line_with key text = keyed key (cut 10 text)
