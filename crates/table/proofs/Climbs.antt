-- The upper neighbours of a vector, component by component, by the vector's number. Assumes nothing.
use Rattle.std.proofs.Common.{◌≡◌, ℕ, ◌+◌, ◌-◌, ◌*◌, ◌/◌, ◌%◌, ◌<◌, ◌≤◌, Bool, true, false, cond, ◌&&◌, ◌||◌, ltb, List, [], ◌∷◌, map, length, get_or, sym, refl, ap, ◌∙◌, ap₂, mul-le-mul_right, arith}
use native.Mathlib.Nat.{mul-div_cancel_left}
use Rattle.std.proofs.lemmas.Bool.{lt-ltb}
use Rattle.std.proofs.lemmas.Nat.{div-add-mod', div_below, mod_below}
use Rattle.std.proofs.lemmas.Bool.Decides.{nat_tests}
use Rattle.structure.specs.Shape.{vector_count, vectors}
use Rattle.structure.specs.Order.{number_in, vector_of}
use Rattle.structure.specs.Minimal.{upper}
use Rattle.structure.specs.Conditions.{any}
use Rattle.structure.proofs.Numbers.{count_pos, number_of_vector, vector_of_number}
use Rattle.structure.proofs.Vectors.{length_vectors}
use Rattle.table.specs.Table.{falls_at, falls}
use Rattle.structure.proofs.Scan.{LeftAt, any_more, any_found, any_none, any_same, any_map}

-- a choice between a list with one more in front and the list alone
any_cond : {A : Type 0} (p : A → Bool) (b : Bool) (x : A) (xs : List A) → any p (cond b (x ∷ xs) xs) ≡ ((b && p x) || any p xs)
any_cond p true x xs = refl
any_cond p false x xs = refl

-- a rank at its top, or a level that is not lower
steady : (r a x y : ℕ) → (r < a → y ≤ x) → (ltb r a && ltb x y) ≡ false
steady r a x y h = grind (arith, nat_tests)

module _ (levels : List ℕ) (k : ℕ) where
  -- the vector numbered m has a level below that of the one numbered k
  abbrev pub lower_than : ℕ → Bool
  lower_than m = ltb (get_or levels m 0) (get_or levels k 0)

  -- raising a later rank lowers the level: the earlier ranks stand for base, the later ones, with these tops, for rest
  abbrev pub later_falls : ℕ → List ℕ → ℕ → Bool
  later_falls base tops rest = any (λ w. lower_than (base + number_in tops w)) (upper tops (vector_of tops rest))

  -- the first of the later ranks, and those after it
  pub falls_next : (base a : ℕ) (tops : List ℕ) (rest : ℕ) → base + rest ≡ k →
      let c = vector_count tops in
      later_falls base (a ∷ tops) rest ≡ ((ltb (rest / c) a && lower_than (k + c)) || later_falls (base + rest / c * c) tops (rest % c))
  falls_next base a tops rest e =
      let c = vector_count tops in
      let r = rest / c in
      let v = vector_of tops (rest % c) in
      let p : List ℕ → Bool = λ w. lower_than (base + number_in (a ∷ tops) w) in
      let here : base + ((r + 1) * c + number_in tops v) ≡ k + c =
      omega (arith, div-add-mod' rest c, number_of_vector tops (rest % c) (mod_below rest c (count_pos tops))) in
      let there : (w : List ℕ) → p (r ∷ w) ≡ lower_than (base + r * c + number_in tops w) =
      λ w. let f : base + (r * c + number_in tops w) ≡ base + r * c + number_in tops w = omega arith in ap lower_than f in
      any_cond p (ltb r a) ((r + 1) ∷ v) (map (λ w. r ∷ w) (upper tops v))
      ∙ ap (λ m. (ltb r a && lower_than m) || any p (map (λ w. r ∷ w) (upper tops v))) here
      ∙ ap (λ b. (ltb r a && lower_than (k + c)) || b)
      (any_map p (λ w. r ∷ w) (upper tops v) ∙ any_same (λ w. p (r ∷ w)) (λ w. lower_than (base + r * c + number_in tops w)) there (upper tops v))

-- ## Along the components

-- before the components with the tops ts: how far apart the vectors lie that differ by one rank of the component before these, what the
-- ranks of these stand for, and that the vector numbered k falls exactly if raising one of these lowers the level
pub record Along (tops levels : List ℕ) (k : ℕ) (ts : List ℕ) (stride rest : ℕ) : Type 0 where
  pub is : stride ≡ vector_count ts
  pub low : rest < stride
  pub part : rest ≤ k
  pub room : k - rest + stride ≤ length levels
  pub same : falls_at tops levels (vector_of tops k) ≡ later_falls levels k (k - rest) ts rest

module _ (tops levels : List ℕ) (k : ℕ) where
  pub along_start : length levels ≡ vector_count tops → k < length levels → Along tops levels k tops (length levels) k
  along_start e h = record {
    is = e;
    low = h;
    part = omega arith;
    room = omega arith;
    same =
        let f : k - k ≡ 0 = omega arith in
        let g : number_in tops (vector_of tops k) ≡ k = number_of_vector tops k (omega arith) in
        any_same (λ w. ltb (get_or levels (number_in tops w) 0) (get_or levels (number_in tops (vector_of tops k)) 0))
        (λ w. lower_than levels k (k - k + number_in tops w))
        (λ w. let z : number_in tops w ≡ k - k + number_in tops w = omega arith in
        ap₂ (λ m n. ltb (get_or levels m 0) (get_or levels n 0)) z g) (upper tops (vector_of tops k));
  }

-- no component is left
pub along_end : {tops levels : List ℕ} {k stride rest : ℕ} → Along tops levels k [] stride rest → falls_at tops levels (vector_of tops k) ≡ false
along_end along = along.same

module _ {tops levels ts : List ℕ} {k a stride rest : ℕ} (along : Along tops levels k (a ∷ ts) stride rest) where
  -- how far apart the vectors lie that differ by one rank of the component with the top a
  abbrev step : ℕ
  step = stride / (a + 1)

  step_is : step ≡ vector_count ts
  step_is = ap (λ s. s / (a + 1)) along.is ∙ mul-div_cancel_left (vector_count ts) (omega arith)

  step_pos : 0 < step
  step_pos = omega (arith, step_is, count_pos ts)

  count_step : stride ≡ (a + 1) * step
  count_step = along.is ∙ ap (λ c. (a + 1) * c) (sym step_is)

  -- the vector's rank
  rank_high : rest / step ≤ a
  rank_high =
      let l : rest < (a + 1) * step = omega (arith, along.low, count_step) in
      omega (arith, div_below rest step (a + 1) step_pos l)

  -- the test of the component, and what is left after it
  falls_after : falls_at tops levels (vector_of tops k)
      ≡ ((ltb (rest / step) a && lower_than levels k (k + step)) || later_falls levels k (k - rest % step) ts (rest % step))
  falls_after =
      let c = vector_count ts in
      let e : k - rest + rest ≡ k = omega (arith, along.part) in
      let f : k - rest + rest / c * c ≡ k - rest % c = omega (arith, along.part, div-add-mod' rest c) in
      along.same
      ∙ falls_next levels k (k - rest) a ts rest e
      ∙ ap (λ b. (ltb (rest / c) a && lower_than levels k (k + c)) || later_falls levels k b ts (rest % c)) f
      ∙ ap (λ s. (ltb (rest / s) a && lower_than levels k (k + s)) || later_falls levels k (k - rest % s) ts (rest % s)) (sym step_is)

  -- the neighbour one rank higher has a lower level
  pub along_fell : rest / step < a → get_or levels (k + step) 0 < get_or levels k 0 → falls_at tops levels (vector_of tops k) ≡ true
  along_fell l m = falls_after ∙ rw (lt-ltb (rest / step) a l, lt-ltb (get_or levels (k + step) 0) (get_or levels k 0) m)

  -- it has not
  pub along_next : (rest / step < a → get_or levels k 0 ≤ get_or levels (k + step) 0) → Along tops levels k ts step (rest % step)
  along_next up = record {
    is = step_is;
    low = mod_below rest step step_pos;
    part = omega (arith, along.part, div-add-mod' rest step);
    room = omega (arith, along.room, along.part, count_step, div-add-mod' rest step, mul-le-mul_right step rank_high);
    same = falls_after ∙ ap (λ b. b || later_falls levels k (k - rest % step) ts (rest % step)) (steady (rest / step) a _ _ up);
  }

-- ## Along the vectors

module _ (tops levels : List ℕ) (k : ℕ) (e : length levels ≡ vector_count tops) where
  abbrev pub Left : ℕ → Type 0
  Left i = LeftAt (falls_at tops levels) (vectors tops) i

  at : k < length levels → falls_at tops levels (get_or (vectors tops) k []) ≡ falls_at tops levels (vector_of tops k)
  at h = ap (falls_at tops levels) (vector_of_number tops k (omega arith))

  -- the vector numbered k does not fall, or does
  pub left_next : k < length levels → Left k → falls_at tops levels (vector_of tops k) ≡ false → Left (k + 1)
  left_next h l f = any_more (falls_at tops levels) (vectors tops) k [] (omega (arith, length_vectors tops)) l (at h ∙ f)

  pub left_fell : k < length levels → Left k → falls_at tops levels (vector_of tops k) ≡ true → falls tops levels ≡ true
  left_fell h l f = any_found (falls_at tops levels) (vectors tops) k [] (omega (arith, length_vectors tops)) l (at h ∙ f)

  -- no vector is left
  pub left_end : length levels ≤ k → Left k → falls tops levels ≡ false
  left_end h l = any_none (falls_at tops levels) (vectors tops) k (omega (arith, length_vectors tops)) l
