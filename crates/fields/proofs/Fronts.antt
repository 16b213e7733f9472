-- What follows a front is what is left without it. Assumes nothing.
use Rattle.std.proofs.Common.{◌≡◌, ℕ, List, [], ◌∷◌, ◌++◌, Some, None, Option, sym, refl, ap, ◌∙◌, inl, inr, Bor, MatchOption}
use Rattle.std.specs.Option.{option_map}
use Rattle.std.proofs.lemmas.Bool.{cases_eq, eq-eqb, ne_eqb}
use Rattle.fields.specs.Lines.{Halves, cut, after_front, keyed, line_with}

after_itself : (front rest : List ℕ) → after_front front (front ++ rest) ≡ Some rest
after_itself [] rest = refl
after_itself (f ∷ fs) rest = rw (eq-eqb f f refl) (after_itself fs rest)

after_other : (front bs : List ℕ) → ((rest : List ℕ) → bs ≡ front ++ rest → ⊥) → after_front front bs ≡ None
after_other [] bs n = absurd (n bs refl)
after_other (f ∷ fs) [] n = refl
after_other (f ∷ fs) (b ∷ bs) n = elim (cases_eq b f) [
  | inl e ↦ rw (eq-eqb b f e) (after_other fs bs (λ rest g. n rest (cc)))
  | inr d ↦ rw (ne_eqb b f d)
]

-- what a removed front says
pub after_is : (front bs : List ℕ) (r : Option (Bor (List ℕ)))
    → MatchOption r ((rest : List ℕ) → bs ≡ front ++ rest → ⊥) (λ x. bs ≡ front ++ x.now) → option_map (λ x. x.now) r ≡ after_front front bs
after_is front bs None n = sym (after_other front bs n)
after_is front bs (Some x) e = sym (ap (after_front front) e ∙ after_itself front x.now)

-- a line that is cut off, without its key
pub line_is : (key text : List ℕ) (h : Halves) (o : Option (List ℕ)) → Some h ≡ cut 10 text → o ≡ after_front key h.0
    → option_map (λ value. (value, h.1)) o ≡ line_with key text
line_is key text h o c e = ap (option_map (λ value. (value, h.1))) e ∙ ap (keyed key) c
