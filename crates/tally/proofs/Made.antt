-- An array that a closure makes, place by place, and numbers that are shares. Assumes nothing.
use Rattle.std.proofs.Common.{◌≡◌, ℕ, zero, suc, ◌+◌, ◌<◌, ◌≤◌, false, List, [], ◌∷◌, get_or, sym, subst, inl, inr, arith}
use Rattle.std.proofs.Math.Nat.{eq-or-lt_of_le}
use Rattle.std.specs.Array.{IsFromFnResultFrom}
use Rattle.std.proofs.lemmas.Bool.{or_parts, ltb-false}
use Rattle.structure.specs.Conditions.{any_over}
use denote.Param.Members.{Mut, Called}

-- what each call makes, where the calls leave the closure as it was
module _ {F B : Type 0} (g : Mut F (ℕ × Unit {0}) B) (f : F) (P : ℕ → B → Type 0)
    (makes : (i : ℕ) (y : B) (q : F) → Called g f (i, tt) y q → (q ≡ f) × P i y) where
  pub made_each : (ys : List B) (i n : ℕ) → IsFromFnResultFrom g f ys i n → (k : ℕ) (d : B) → i ≤ k → k < i + n → P k (get_or ys k d)
  made_each ys i zero h k d low high = absurd (omega arith)
  made_each ys i (suc n) (q, y, at, call, rest) k d low high =
      let made = makes i y q call in
      elim (eq-or-lt_of_le low) [
        | inl e ↦ subst (λ j. P j (get_or ys j d)) e (subst (P i) (sym (at.1 d)) made.1)
        | inr l ↦ made_each ys (i + 1) n (subst (λ p. IsFromFnResultFrom g p ys (i + 1) n) made.0 rest) k d (omega arith) (omega arith)
      ]

-- no number of the row is over d
pub none_over : (d : ℕ) (row : List ℕ) (i : ℕ) → any_over d row ≡ false → get_or row i 0 ≤ d
none_over d [] i h = omega arith
none_over d (x ∷ row) zero h = ltb-false d x (or_parts _ _ h).0
none_over d (x ∷ row) (suc i) h = none_over d row i (or_parts _ _ h).1
