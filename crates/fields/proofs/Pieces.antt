-- The pieces between commas, by the first comma. Assumes nothing.
use Rattle.std.proofs.Common.{◌≡◌, ℕ, Bool, true, false, if◌then◌else◌, List, [], ◌∷◌, Some, None, Option, ◌==◌, refl, ap, ◌∙◌}
use Rattle.std.specs.Option.{option_map}
use Rattle.fields.specs.Numbers.{onto, pieces}
use Rattle.fields.specs.Lines.{Halves, cut}

-- the text before the comma and the pieces after it, or the whole text where there is no comma
abbrev pub pieces_by : List ℕ → Option Halves → List (List ℕ)
pieces_by xs None = xs ∷ []
pieces_by xs (Some h) = h.0 ∷ pieces h.1

pieces_by-more : (b : ℕ) (bs : List ℕ) (t : Bool) (o : Option Halves)
    → (if t then [] ∷ pieces bs else onto b (pieces_by bs o))
    ≡ pieces_by (b ∷ bs) (if t then Some ([], bs) else option_map (λ h. (b ∷ h.0, h.1)) o)
pieces_by-more b bs true o = refl
pieces_by-more b bs false None = refl
pieces_by-more b bs false (Some h) = refl

pub pieces_cut : (xs : List ℕ) → pieces xs ≡ pieces_by xs (cut 44 xs)
pieces_cut [] = refl
pieces_cut (b ∷ bs) =
    ap (λ ps. if b == 44 then [] ∷ pieces bs else onto b ps) (pieces_cut bs) ∙ pieces_by-more b bs (b == 44) (cut 44 bs)
