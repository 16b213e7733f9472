-- A test that passes at some element of a list and the one after it. Assumes nothing.
use Rattle.std.proofs.Common.{◌≡◌, ℕ, zero, suc, ◌<◌, Bool, true, false, not, ◌||◌, List, [], ◌∷◌, map, length, get_or, sym, refl, ap, add-one, le_of_suc-le-suc, arith}
use Rattle.std.specs.List.{IsAllAdjacentAnswer}
use Rattle.std.proofs.lemmas.Bool.{or_from, or_left, or_right, not-true, not-false}
use Rattle.structure.specs.Conditions.{any_next}

module _ {A : Type 0} (p : A → A → Bool) where
  -- it passes nowhere, or at one place
  next_nowhere : (xs : List A) → ((k : ℕ) (d : A) → suc k < length xs → p (get_or xs k d) (get_or xs (suc k) d) ≡ false) → any_next p xs ≡ false
  next_nowhere [] h = refl
  next_nowhere (x ∷ []) h = refl
  next_nowhere (x ∷ y ∷ xs) h =
      or_from (p x y) (any_next p (y ∷ xs)) (h 0 x (omega arith))
      (next_nowhere (y ∷ xs) (λ k d l. h (suc k) d (omega arith)))

  next_at : (xs : List A) (k : ℕ) (d : A) → suc k < length xs → p (get_or xs k d) (get_or xs (suc k) d) ≡ true → any_next p xs ≡ true
  next_at [] k d h e = absurd (omega arith)
  next_at (x ∷ []) k d h e = absurd (omega arith)
  next_at (x ∷ y ∷ xs) zero d h e = or_left (p x y) (any_next p (y ∷ xs)) e
  next_at (x ∷ y ∷ xs) (suc k) d h e =
      or_right (p x y) (any_next p (y ∷ xs)) (next_at (y ∷ xs) k d (le_of_suc-le-suc h) e)

  -- what `is_sorted_by` answers of an order that two neighbours break where the test passes
  pub next_unsorted : (xs : List A) (r : Bool) → IsAllAdjacentAnswer (λ x y b. b ≡ not (p x y)) xs r → not r ≡ any_next p xs
  next_unsorted xs true h = sym (next_nowhere xs (λ k d l. not-true _ (sym (rw (add-one k) at (h k d (omega arith))))))
  next_unsorted [] false h = absurd (omega (arith, h.1))
  next_unsorted (x ∷ xs) false h = sym (next_at (x ∷ xs) h.0 x (omega (arith, h.1)) (not-false _ (sym (rw (add-one h.0) at (h.2 x)))))

-- of a mapped list
pub any_next_map : {A B : Type 0} (p : B → B → Bool) (f : A → B) (xs : List A) → any_next p (map f xs) ≡ any_next (λ x y. p (f x) (f y)) xs
any_next_map p f [] = refl
any_next_map p f (x ∷ []) = refl
any_next_map p f (x ∷ y ∷ xs) = ap (λ b. p (f x) (f y) || b) (any_next_map p f (y ∷ xs))
