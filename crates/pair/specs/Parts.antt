-- Lists in two parts: a front and the rest. Assumes nothing.
use Rattle.std.specs.Prelude.{◌≡◌, ℕ, zero, suc, ◌+◌, ◌*◌, ◌<◌, Bool, true, false, ◌&&◌, List, [], ◌∷◌, ◌++◌, length, take, drop, nat_le, refl}
use Rattle.std.proofs.Common.{le_of_suc-le-suc, arith, ap, ◌∙◌}
use Rattle.std.proofs.lemmas.Bool.{and_right}
use Rattle.structure.specs.Shape.{within, AllBelow, vector_count, TopsFit}

-- ## Vectors within the tops

and_assoc : (x y z : Bool) → (x && (y && z)) ≡ ((x && y) && z)
and_assoc true y z = refl
and_assoc false y z = refl

-- within both tops is the front within the first's, and the rest within the second's
pub within_parts : (s t v : List ℕ) → within (s ++ t) v ≡ (within s (take (length s) v) && within t (drop (length s) v))
within_parts [] t v = refl
within_parts (a ∷ s) t [] = refl
within_parts (a ∷ s) t (r ∷ v) =
    ap (λ z. nat_le r a && z) (within_parts s t v) ∙ and_assoc (nat_le r a) (within s (take (length s) v)) (within t (drop (length s) v))

-- no vector is shorter than the first's tops
pub within_short : (s t v : List ℕ) → length v < length s → within (s ++ t) v ≡ false
within_short [] t v h = absurd (omega arith)
within_short (a ∷ s) t [] h = refl
within_short (a ∷ s) t (r ∷ v) h = and_right (nat_le r a) (within (s ++ t) v) (within_short s t v (le_of_suc-le-suc h))

-- ## Vectors in order

pub below_front : (n : ℕ) (v w : List ℕ) → AllBelow v w → AllBelow (take n v) (take n w)
below_front zero v w h = tt
below_front (suc n) [] [] h = tt
below_front (suc n) [] (s ∷ w) h = absurd h
below_front (suc n) (r ∷ v) [] h = absurd h
below_front (suc n) (r ∷ v) (s ∷ w) h = (h.0, below_front n v w h.1)

pub below_rest : (n : ℕ) (v w : List ℕ) → AllBelow v w → AllBelow (drop n v) (drop n w)
below_rest zero v w h = h
below_rest (suc n) [] [] h = tt
below_rest (suc n) [] (s ∷ w) h = absurd h
below_rest (suc n) (r ∷ v) [] h = absurd h
below_rest (suc n) (r ∷ v) (s ∷ w) h = below_rest n v w h.1

-- ## Tops

pub tops_fit_append : (s t : List ℕ) → TopsFit s → TopsFit t → TopsFit (s ++ t)
tops_fit_append [] t h k = k
tops_fit_append (a ∷ s) t h k = (h.0, h.1, tops_fit_append s t h.2 k)

pub count_append : (s t : List ℕ) → vector_count (s ++ t) ≡ vector_count s * vector_count t
count_append [] t = omega arith
count_append (a ∷ s) t = omega (arith, ap (λ c. (a + 1) * c) (count_append s t))
