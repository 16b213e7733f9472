-- What stands at a place of two lists, one after the other. Assumes nothing.
use Rattle.std.specs.Prelude.{◌≡◌, ℕ, ◌+◌, ◌-◌, ◌<◌, ◌≤◌, List, ◌++◌, length, Some, None, nat_le, slice_index, refl}
use Rattle.std.proofs.Common.{arith, sym, ap, ◌∙◌, inl, inr}
use Rattle.std.proofs.lemmas.List.{length-append, get_or_append_left, get_or-append_right}
use Rattle.std.proofs.lemmas.Bool.{cond-true, cond-false, and_from, and_left, and_right, le-leb, lt-leb, cases_lt}
use Rattle.structure.specs.Questions.{at_place, inside}

place_inside : (xs : List ℕ) (i : ℕ) → 1 ≤ i → i ≤ length xs → at_place xs i ≡ Some (slice_index xs (i - 1))
place_inside xs i h k =
    cond-true (inside i (length xs)) (Some (slice_index xs (i - 1))) None (and_from (nat_le 1 i) (nat_le i (length xs)) (le-leb 1 i h) (le-leb i (length xs) k))

place_low : (xs : List ℕ) (i : ℕ) → i < 1 → at_place xs i ≡ None
place_low xs i h = cond-false (inside i (length xs)) (Some (slice_index xs (i - 1))) None (and_left (nat_le 1 i) (nat_le i (length xs)) (lt-leb 1 i h))

pub place_high : (xs : List ℕ) (i : ℕ) → length xs < i → at_place xs i ≡ None
place_high xs i h = cond-false (inside i (length xs)) (Some (slice_index xs (i - 1))) None (and_right (nat_le 1 i) (nat_le i (length xs)) (lt-leb i (length xs) h))

-- what stands at a place up to the end of the front, and after it
pub place_front : (xs ys : List ℕ) (i : ℕ) → i ≤ length xs → at_place (xs ++ ys) i ≡ at_place xs i
place_front xs ys i h = elim (cases_lt 0 i) [
  | inl p ↦
      place_inside (xs ++ ys) i (omega arith) (simp length-append (omega arith))
      ∙ ap Some (get_or_append_left xs ys 0 (i - 1) (omega arith)) ∙ sym (place_inside xs i (omega arith) h)
  | inr p ↦ place_low (xs ++ ys) i (omega arith) ∙ sym (place_low xs i (omega arith))
]

pub place_rest : (xs ys : List ℕ) (i : ℕ) → length xs < i → at_place (xs ++ ys) i ≡ at_place ys (i - length xs)
place_rest xs ys i h = elim (cases_lt (length xs + length ys) i) [
  | inl p ↦ place_high (xs ++ ys) i (simp length-append p) ∙ sym (place_high ys (i - length xs) (omega arith))
  | inr p ↦
      let e : i - 1 - length xs ≡ i - length xs - 1 = omega arith in
      place_inside (xs ++ ys) i (omega arith) (simp length-append p)
      ∙ ap Some (get_or-append_right xs ys (length xs) (i - 1) 0 refl (omega arith) ∙ ap (λ k. slice_index ys k) e)
      ∙ sym (place_inside ys (i - length xs) (omega arith) (omega arith))
]
