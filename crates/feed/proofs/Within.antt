-- Whether a vector is within the tops, told from the pairs of a rank and its top. Assumes nothing.
use Rattle.std.proofs.Common.{◌≡◌, ℕ, true, ◌&&◌, T, leb, eqb, List, [], ◌∷◌, length, sym, ap, ◌∙◌, subst, ⊎_elim, refl, arith}
use Rattle.std.specs.List.{zip, list_all}
use Rattle.std.proofs.lemmas.Bool.{cases_Bool, ne_eqb}
use Rattle.structure.specs.Shape.{within}
use Rattle.structure.proofs.Below.{length_within}

-- as many ranks as tops
pub within_length : (tops v : List ℕ) → within tops v ≡ true → length v ≡ length tops
within_length tops v e = length_within tops v (subst T (sym e) tt)

-- a vector of another length is not within them
pub within_other : (tops v : List ℕ) → (length v ≡ length tops → ⊥) → eqb (length v) (length tops) ≡ within tops v
within_other tops v n = ⊎_elim
    (λ e. absurd (n (within_length tops v e)))
    (λ e. ne_eqb (length v) (length tops) n ∙ sym e)
    (cases_Bool (within tops v))

-- one of their length
pub within_zip : (tops v : List ℕ) → length v ≡ length tops → list_all (λ p. leb p.0 p.1) (zip v tops) ≡ within tops v
within_zip [] [] e = refl
within_zip [] (r ∷ v) e = absurd (omega arith)
within_zip (a ∷ tops) [] e = absurd (omega arith)
within_zip (a ∷ tops) (r ∷ v) e = ap (λ b. leb r a && b) (within_zip tops v (omega arith))
