-- A test passes at some element, or at none. Assumes nothing.
use Rattle.std.proofs.Common.{◌≡◌, ℕ, zero, suc, ◌<◌, Bool, true, false, List, [], ◌∷◌, length, get_or, refl, inl, inr, ⊎_elim, le_of_suc-le-suc, arith}
use Rattle.std.specs.List.{AllByRecursion}
use Rattle.std.proofs.lemmas.Bool.{or_cases, or_parts, or_from, or_left, or_right, false≢true}
use Rattle.std.proofs.ByRecursion.{All-get_or, All-from_get_or}
use Rattle.structure.specs.Conditions.{any}
use Rattle.structure.proofs.Some.{Some}

module _ {A : Type 0} (p : A → Bool) where
  -- it fails at all
  pub any_none : (xs : List A) → AllByRecursion (λ x. p x ≡ false) xs → any p xs ≡ false
  any_none [] h = refl
  any_none (x ∷ xs) h = or_from (p x) (any p xs) h.0 (any_none xs h.1)

  pub all_fail : (xs : List A) → any p xs ≡ false → AllByRecursion (λ x. p x ≡ false) xs
  all_fail [] e = tt
  all_fail (x ∷ xs) e = let h = or_parts (p x) (any p xs) e in (h.0, all_fail xs h.1)

  -- it passes at one
  pub any_some : (xs : List A) → Some (λ x. p x ≡ true) xs → any p xs ≡ true
  any_some [] s = absurd s
  any_some (x ∷ xs) (inl e) = or_left (p x) (any p xs) e
  any_some (x ∷ xs) (inr s) = or_right (p x) (any p xs) (any_some xs s)

  pub some_passes : (xs : List A) → any p xs ≡ true → Some (λ x. p x ≡ true) xs
  some_passes [] e = absurd (false≢true e)
  some_passes (x ∷ xs) e = ⊎_elim (λ h. inl h) (λ h. inr (some_passes xs h)) (or_cases (p x) (any p xs) e)

  -- the same by places
  pub any_none_at : (xs : List A) (d : A) → ((k : ℕ) → k < length xs → p (get_or xs k d) ≡ false) → any p xs ≡ false
  any_none_at xs d h = any_none xs (All-from_get_or (λ x. p x ≡ false) xs d h)

  pub fails_at : (xs : List A) (k : ℕ) (d : A) → k < length xs → any p xs ≡ false → p (get_or xs k d) ≡ false
  fails_at xs k d h e = All-get_or (λ x. p x ≡ false) xs k d h (all_fail xs e)

  pub any_at : (xs : List A) (k : ℕ) (d : A) → k < length xs → p (get_or xs k d) ≡ true → any p xs ≡ true
  any_at [] k d h e = absurd (omega arith)
  any_at (x ∷ xs) zero d h e = or_left (p x) (any p xs) e
  any_at (x ∷ xs) (suc k) d h e = or_right (p x) (any p xs) (any_at xs k d (le_of_suc-le-suc h) e)
