-- Vectors by their numbers: each has one number below the count, and its ranks are the number's digits. Assumes nothing.
use Rattle.std.proofs.Common.{◌≡◌, ℕ, zero, suc, ◌+◌, ◌-◌, ◌*◌, ◌/◌, ◌%◌, ◌<◌, ◌≤◌, T, leb, List, [], ◌∷◌, ◌++◌, map, length, get_or, set, sym, refl, ap, ◌∙◌, ap₂, ⊎_elim, le_of_suc-le-suc, mod-eq_of_lt, add-one, arith, le→leb, leb→le}
use native.Mathlib.Nat.{add-mul-div_right, add-mul-mod_self_right}
use lib.ListN.{length-map}
use Rattle.std.proofs.lemmas.Bool.{cases_lt}
use Rattle.std.proofs.lemmas.List.{get_or_append_left, get_or-append_right, get_or_push, get_or-map, length_push, drop_all}
use Rattle.std.proofs.lemmas.Nat.{div-add-mod', div_below, mod_below, mul-add-lt, div-mul-add, mod-mul-add}
use Rattle.structure.specs.Shape.{within, vector_count, from_zero, each_then, vectors}
use Rattle.structure.specs.Order.{number_in, vector_of, stride}
use Rattle.structure.proofs.Tests.{both, left, right}
use Rattle.structure.proofs.Places.{within_raise, within_lower}
use Rattle.structure.proofs.Vectors.{length_vectors}

-- ## The count

-- there is a vector
pub count_pos : (tops : List ℕ) → 0 < vector_count tops
count_pos [] = omega arith
count_pos (a ∷ tops) = omega (arith, count_pos tops)

pub stride_pos : (tops : List ℕ) (i : ℕ) → 0 < stride tops i
stride_pos [] i = omega arith
stride_pos (a ∷ tops) zero = count_pos tops
stride_pos (a ∷ tops) (suc i) = stride_pos tops i

-- ## The number and the vector

pub number_inside : (tops v : List ℕ) → T (within tops v) → number_in tops v < vector_count tops
number_inside [] [] t = omega arith
number_inside [] (r ∷ v) t = absurd t
number_inside (a ∷ tops) [] t = absurd t
number_inside (a ∷ tops) (r ∷ v) t =
    let h : r < a + 1 = omega (arith, leb→le r a (left (leb r a) (within tops v) t)) in
    let k = number_inside tops v (right (leb r a) (within tops v) t) in
    omega (arith, mul-add-lt r (vector_count tops) (number_in tops v) (a + 1) h k)

pub number_vector : (tops v : List ℕ) → T (within tops v) → vector_of tops (number_in tops v) ≡ v
number_vector [] [] t = refl
number_vector [] (r ∷ v) t = absurd t
number_vector (a ∷ tops) [] t = absurd t
number_vector (a ∷ tops) (r ∷ v) t =
    let there = right (leb r a) (within tops v) t in
    let low = number_inside tops v there in
    let c = vector_count tops in
    let n = number_in tops v in
    ap₂ ◌∷◌ (div-mul-add r c n low) (ap (vector_of tops) (mod-mul-add r c n low) ∙ number_vector tops v there)

-- the first rank of a number's vector
first_rank : (a : ℕ) (tops : List ℕ) (k : ℕ) → k < vector_count (a ∷ tops) → k / vector_count tops < a + 1
first_rank a tops k h = div_below k (vector_count tops) (a + 1) (count_pos tops) h

pub number_of_vector : (tops : List ℕ) (k : ℕ) → k < vector_count tops → number_in tops (vector_of tops k) ≡ k
number_of_vector [] k h = omega arith
number_of_vector (a ∷ tops) k h =
    let c = vector_count tops in
    omega (arith, div-add-mod' k c, number_of_vector tops (k % c) (mod_below k c (count_pos tops)))

pub vector_within : (tops : List ℕ) (k : ℕ) → k < vector_count tops → T (within tops (vector_of tops k))
vector_within [] k h = tt
vector_within (a ∷ tops) k h =
    let c = vector_count tops in
    both (leb (k / c) a) (within tops (vector_of tops (k % c)))
    (le→leb (k / c) a (omega (arith, first_rank a tops k h)))
    (vector_within tops (k % c) (mod_below k c (count_pos tops)))

pub length_vector_of : (tops : List ℕ) (k : ℕ) → length (vector_of tops k) ≡ length tops
length_vector_of [] k = refl
length_vector_of (a ∷ tops) k = ap suc (length_vector_of tops (k % vector_count tops))

-- all ranks zero is the first, and all at the top the last
pub number_zero : (tops : List ℕ) → number_in tops (map (λ _. 0) tops) ≡ 0
number_zero [] = refl
number_zero (a ∷ tops) = omega (arith, number_zero tops)

pub number_tops : (tops : List ℕ) → number_in tops tops ≡ vector_count tops - 1
number_tops [] = refl
number_tops (a ∷ tops) = omega (arith, number_tops tops, count_pos tops)

-- ## The vector of a number is the one that the list of all vectors has there

-- the ranks from 0 to a top: as many as that, each at its own place
abbrev Ranks : ℕ → List ℕ → Type 0
Ranks a rs = (length rs ≡ a + 1) × ((q : ℕ) → q ≤ a → get_or rs q 0 ≡ q)

ranks_more : (a : ℕ) (rs : List ℕ) → Ranks a rs → Ranks (suc a) (rs ++ (suc a ∷ []))
ranks_more a rs h = (
  length_push rs (suc a) ∙ omega arith,
  λ q b. ⊎_elim
      (λ l. get_or_append_left rs (suc a ∷ []) 0 q (omega arith) ∙ h.1 q (omega arith))
      (λ l. get_or_push rs (suc a) 0 q (omega arith) ∙ omega arith)
      (cases_lt q (suc a)),
)

ranks : (a : ℕ) → Ranks a (from_zero a)
ranks zero = (refl, λ q b. let e : q ≡ 0 = omega arith in rw e)
ranks (suc a) = ranks_more a (from_zero a) (ranks a)

get_or_each_then : (rs : List ℕ) (vs : List (List ℕ)) (q r k : ℕ) → k ≡ q * length vs + r → q < length rs → r < length vs →
    get_or (each_then rs vs) k [] ≡ get_or rs q 0 ∷ get_or vs r []
get_or_each_then [] vs q r k e h l = absurd (omega arith)
get_or_each_then (s ∷ rs) vs zero r k e h l =
    let f : k ≡ r = omega arith in
    let m : k < length (map (λ v. s ∷ v) vs) = omega (arith, length-map vs (λ v. s ∷ v)) in
    get_or_append_left (map (λ v. s ∷ v) vs) (each_then rs vs) [] k m
    ∙ get_or-map (λ v. s ∷ v) vs k [] [] (omega arith)
    ∙ ap (λ j. s ∷ get_or vs j []) f
get_or_each_then (s ∷ rs) vs (suc q) r k e h l =
    get_or-append_right (map (λ v. s ∷ v) vs) (each_then rs vs) (length vs) k [] (length-map vs (λ v. s ∷ v)) (omega arith)
    ∙ get_or_each_then rs vs q r (k - length vs) (omega arith) (le_of_suc-le-suc h) l

pub vector_of_number : (tops : List ℕ) (k : ℕ) → k < vector_count tops → get_or (vectors tops) k [] ≡ vector_of tops k
vector_of_number [] zero h = refl
vector_of_number [] (suc k) h = refl
vector_of_number (a ∷ tops) k h =
    let c = vector_count tops in
    let long = length_vectors tops in
    let low = mod_below k c (count_pos tops) in
    let first = first_rank a tops k h in
    let e : k ≡ k / c * length (vectors tops) + k % c = rw long (sym (div-add-mod' k c)) in
    get_or_each_then (from_zero a) (vectors tops) (k / c) (k % c) k e (omega (arith, (ranks a).0)) (omega arith)
    ∙ ap₂ ◌∷◌ ((ranks a).1 (k / c) (omega arith)) (vector_of_number tops (k % c) low)

-- ## A rank is a digit of the number

-- the count is a multiple of a top's ranks and of what lies after them
count_split : (tops : List ℕ) (i : ℕ) → i < length tops → (m : ℕ) × (vector_count tops ≡ m * (get_or tops i 0 + 1) * stride tops i)
count_split [] i h = absurd (omega arith)
count_split (a ∷ tops) zero h = (1, omega arith)
count_split (a ∷ tops) (suc i) h =
    let p = count_split tops i (le_of_suc-le-suc h) in
    ((a + 1) * p.0, omega (arith, ap (λ c. (a + 1) * c) p.1))

-- what is left over from a multiple has the same digit
digit_of_rest : (k c m b s : ℕ) → 0 < s → c ≡ m * b * s → k % c / s % b ≡ k / s % b
digit_of_rest k c m b s p e =
    let q = k / c in
    let r = k % c in
    let f : k ≡ r + q * m * b * s = omega (arith, div-add-mod' k c, ap (λ x. q * x) e) in
    let g : k / s ≡ r / s + q * m * b = ap (λ x. x / s) f ∙ add-mul-div_right r (q * m * b) p in
    sym (ap (λ x. x % b) g ∙ add-mul-mod_self_right (r / s) (q * m) b)

pub digit : (tops : List ℕ) (k i : ℕ) → i < length tops → k < vector_count tops →
    get_or (vector_of tops k) i 0 ≡ (k / stride tops i) % (get_or tops i 0 + 1)
digit [] k i h l = absurd (omega arith)
digit (a ∷ tops) k zero h l = sym (mod-eq_of_lt (first_rank a tops k l))
digit (a ∷ tops) k (suc i) h l =
    let c = vector_count tops in
    let p = count_split tops i (le_of_suc-le-suc h) in
    digit tops (k % c) i (le_of_suc-le-suc h) (mod_below k c (count_pos tops))
    ∙ digit_of_rest k c p.0 (get_or tops i 0 + 1) (stride tops i) (stride_pos tops i) p.1

-- ## One rank higher is a stride further

pub number_raise : (tops v : List ℕ) (i : ℕ) → i < length tops → T (within tops v) →
    number_in tops (set v i (get_or v i 0 + 1)) ≡ number_in tops v + stride tops i
number_raise [] v i h t = absurd (omega arith)
number_raise (a ∷ tops) [] i h t = absurd t
number_raise (a ∷ tops) (r ∷ v) zero h t = omega arith
number_raise (a ∷ tops) (r ∷ v) (suc i) h t = omega (arith, number_raise tops v i (le_of_suc-le-suc h) (right (leb r a) (within tops v) t))

pub number_lower : (tops v : List ℕ) (i : ℕ) → i < length tops → T (within tops v) → 0 < get_or v i 0 →
    number_in tops (set v i (get_or v i 0 - 1)) + stride tops i ≡ number_in tops v
number_lower [] v i h t p = absurd (omega arith)
number_lower (a ∷ tops) [] i h t p = absurd t
number_lower (a ∷ tops) (r ∷ v) zero h t p =
    let e : r - 1 + 1 ≡ r = omega arith in
    omega (arith, ap (λ x. x * vector_count tops) e)
number_lower (a ∷ tops) (r ∷ v) (suc i) h t p = omega (arith, number_lower tops v i (le_of_suc-le-suc h) (right (leb r a) (within tops v) t) p)

module _ (tops : List ℕ) (k i : ℕ) (h : i < length tops) (l : k < vector_count tops) where
  -- the number one rank of component i higher, where it is below its top
  pub raise_inside : get_or (vector_of tops k) i 0 < get_or tops i 0 → k + stride tops i < vector_count tops
  raise_inside b =
      let v = vector_of tops k in
      let t = vector_within tops k l in
      omega (arith, number_inside tops (set v i (get_or v i 0 + 1)) (within_raise tops v i t b), number_raise tops v i h t, number_of_vector tops k l)

  pub vector_raise : get_or (vector_of tops k) i 0 < get_or tops i 0 →
      vector_of tops (k + stride tops i) ≡ set (vector_of tops k) i (get_or (vector_of tops k) i 0 + 1)
  vector_raise b =
      let v = vector_of tops k in
      let t = vector_within tops k l in
      let e : k + stride tops i ≡ number_in tops (set v i (get_or v i 0 + 1)) = omega (arith, number_raise tops v i h t, number_of_vector tops k l) in
      ap (vector_of tops) e ∙ number_vector tops (set v i (get_or v i 0 + 1)) (within_raise tops v i t b)

  -- the number one rank of component i lower, where it is over 0
  pub lower_inside : 0 < get_or (vector_of tops k) i 0 → stride tops i ≤ k
  lower_inside b =
      omega (arith, number_lower tops (vector_of tops k) i h (vector_within tops k l) b, number_of_vector tops k l)

  pub vector_lower : 0 < get_or (vector_of tops k) i 0 →
      vector_of tops (k - stride tops i) ≡ set (vector_of tops k) i (get_or (vector_of tops k) i 0 - 1)
  vector_lower b =
      let v = vector_of tops k in
      let t = vector_within tops k l in
      let e : k - stride tops i ≡ number_in tops (set v i (get_or v i 0 - 1)) = omega (arith, number_lower tops v i h t b, number_of_vector tops k l) in
      ap (vector_of tops) e ∙ number_vector tops (set v i (get_or v i 0 - 1)) (within_lower tops v i t)

-- ## Strides one after another

pub stride_last : (tops : List ℕ) (i : ℕ) → i + 1 ≡ length tops → stride tops i ≡ 1
stride_last tops i e = ap vector_count (drop_all (suc i) tops (omega arith))

stride_suc : (tops : List ℕ) (i : ℕ) → suc i < length tops → stride tops i ≡ (get_or tops (suc i) 0 + 1) * stride tops (suc i)
stride_suc [] i h = absurd (omega arith)
stride_suc (a ∷ []) i h = absurd (omega arith)
stride_suc (a ∷ b ∷ tops) zero h = refl
stride_suc (a ∷ b ∷ tops) (suc i) h = stride_suc (b ∷ tops) i (le_of_suc-le-suc h)

pub stride_more : (tops : List ℕ) (i : ℕ) → i + 1 < length tops → stride tops i ≡ (get_or tops (i + 1) 0 + 1) * stride tops (i + 1)
stride_more tops i h = rw (add-one i) (stride_suc tops i (omega arith))
