-- The number of vectors as a product of tops, and where it is small. Assumes nothing.
use Rattle.std.proofs.Common.{◌≡◌, ℕ, ◌+◌, ◌-◌, ◌*◌, ◌<◌, ◌≤◌, List, length, get_or, drop, Some, None, ap, ⊎_elim, mul-le-mul_left, arith}
use Rattle.std.proofs.lemmas.Bool.{cases_lt, le-leb, lt-leb}
use Rattle.std.proofs.lemmas.List.{at_drop_more, at_drop_all}
use Rattle.structure.specs.Shape.{vector_count}
use Rattle.structure.specs.Questions.{count_if_few}
use Rattle.structure.proofs.Numbers.{count_pos}

module _ (tops : List ℕ) where
  -- the product of the first tops, times the count of the rest, is the count of all
  abbrev pub Product : ℕ → ℕ → Type 0
  Product i n = n * vector_count (drop i tops) ≡ vector_count tops

  pub product_more : (i n top : ℕ) → i < length tops → Product i n → top ≡ get_or tops i 0 → Product (i + 1) (n * (top + 1))
  product_more i n top h e t = rw t (omega (arith, e, ap (λ c. n * c) (at_drop_more vector_count tops i 0 h)))

  -- the same by the component, counted from 1
  pub product_next : (i n top : ℕ) → 1 ≤ i → i ≤ length tops → Product (i - 1) n → top ≡ get_or tops (i - 1) 0 → Product i (n * (top + 1))
  product_next i n top p q e t =
      let one_more : i - 1 + 1 ≡ i = omega arith in
      rw one_more at (product_more (i - 1) n top (omega arith) e t)

  pub product_all : (i n : ℕ) → length tops ≤ i → Product i n → n ≡ vector_count tops
  product_all i n h e = omega (arith, e, ap (λ c. n * c) (at_drop_all vector_count tops i h))

  pub product_least : (i n : ℕ) → Product i n → n ≤ vector_count tops
  product_least i n e = omega (arith, e, mul-le-mul_left n (count_pos (drop i tops)))

  -- what the question answers
  pub many : 65536 < vector_count tops → None ≡ count_if_few tops
  many h = rw (lt-leb (vector_count tops) 65536 h)

  pub few : (n : ℕ) → n ≤ 65536 → n ≡ vector_count tops → Some n ≡ count_if_few tops
  few n h e = rw (← e, le-leb n 65536 h)

  -- and what its answer says
  pub count_if_some : (n : ℕ) → count_if_few tops ≡ Some n → (n ≡ vector_count tops) × (n ≤ 65536)
  count_if_some n e = ⊎_elim
      (λ l. let d = many l in let z : ◌≡◌ {A = ℕ} 0 1 = cc in absurd (omega arith))
      (λ l. let d = few (vector_count tops) l (omega arith) in let f : n ≡ vector_count tops = cc in (f, omega arith))
      (cases_lt 65536 (vector_count tops))

  pub count_if_none : count_if_few tops ≡ None → 65536 < vector_count tops
  count_if_none e = ⊎_elim
      (λ l. l)
      (λ l. let d = few (vector_count tops) l (omega arith) in let z : ◌≡◌ {A = ℕ} 0 1 = cc in absurd (omega arith))
      (cases_lt 65536 (vector_count tops))
