-- A test that passes at some element of a list, looked for from the front. Assumes nothing.
use Rattle.std.proofs.Common.{◌≡◌, ℕ, ◌+◌, ◌<◌, ◌≤◌, Bool, true, false, ◌||◌, List, [], ◌∷◌, map, length, get_or, drop, refl, ap, ◌∙◌, ap₂}
use Rattle.std.proofs.lemmas.List.{at_drop_more, at_drop_all}
use Rattle.structure.specs.Conditions.{any}

module _ {A : Type 0} (p : A → Bool) (xs : List A) where
  -- the elements before i are known to fail
  abbrev pub LeftAt : ℕ → Type 0
  LeftAt i = any p xs ≡ any p (drop i xs)

  next : (i : ℕ) (d : A) → i < length xs → any p (drop i xs) ≡ (p (get_or xs i d) || any p (drop (i + 1) xs))
  next i d h = at_drop_more (any p) xs i d h

  -- one more fails
  pub any_more : (i : ℕ) (d : A) → i < length xs → LeftAt i → p (get_or xs i d) ≡ false → LeftAt (i + 1)
  any_more i d h l e = l ∙ next i d h ∙ ap (λ b. b || any p (drop (i + 1) xs)) e

  -- this one passes
  pub any_found : (i : ℕ) (d : A) → i < length xs → LeftAt i → p (get_or xs i d) ≡ true → any p xs ≡ true
  any_found i d h l e = l ∙ next i d h ∙ ap (λ b. b || any p (drop (i + 1) xs)) e

  -- none is left
  pub any_none : (i : ℕ) → length xs ≤ i → LeftAt i → any p xs ≡ false
  any_none i h l = l ∙ at_drop_all (any p) xs i h

-- tests that agree everywhere
pub any_same : {A : Type 0} (p q : A → Bool) → ((x : A) → p x ≡ q x) → (xs : List A) → any p xs ≡ any q xs
any_same p q h [] = refl
any_same p q h (x ∷ xs) = ap₂ ◌||◌ (h x) (any_same p q h xs)

-- of a mapped list
pub any_map : {A B : Type 0} (p : B → Bool) (f : A → B) (xs : List A) → any p (map f xs) ≡ any (λ x. p (f x)) xs
any_map p f [] = refl
any_map p f (x ∷ xs) = ap (λ b. p (f x) || b) (any_map p f xs)
