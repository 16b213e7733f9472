-- The vector of a number, rank by rank from the last component on. Assumes nothing.
use Rattle.std.proofs.Common.{◌≡◌, ℕ, ◌+◌, ◌*◌, ◌/◌, ◌%◌, ◌<◌, ◌≤◌, List, [], ◌∷◌, ◌++◌, length, get_or, take, drop, set, sym, ap, ◌∙◌, ap₂, mod-eq_of_lt, mul_comm, arith, length-set}
use native.Mathlib.Nat.{div-div-eq-div-mul}
use lib.Seq.{take-set-lt}
use lib.Arith.{mod-mul, digits_div, digits_mod}
use Rattle.std.proofs.lemmas.List.{drop_all, drop_more, drop-set, length-take, length-take-le, length_push, same_from_push, take_more}
use Rattle.std.proofs.lemmas.Nat.{mod_below}
use Rattle.structure.specs.Shape.{vector_count}
use Rattle.structure.specs.Order.{vector_of}
use Rattle.structure.proofs.Numbers.{count_pos}

-- the ranks from place i on are those of number k, and left is what the components before them have to share
pub record RanksFrom (tops v : List ℕ) (k i left : ℕ) : Type 0 where
  pub ranks : drop i (take (length tops) v) ≡ vector_of (drop i tops) (k % vector_count (drop i tops))
  pub rest : left ≡ k / vector_count (drop i tops)
  pub room : length tops ≤ length v

-- before the last component there are none
pub ranks_none : (tops v : List ℕ) (k i : ℕ) → i ≡ length tops → length tops ≤ length v → RanksFrom tops v k i k
ranks_none tops v k i e room =
    let none : drop i tops ≡ [] = drop_all i tops (omega arith) in
    record {
      ranks = drop_all i (take (length tops) v) (omega (arith, length-take-le (length tops) v room)) ∙ sym (ap (λ t. vector_of t (k % vector_count t)) none);
      rest = omega arith ∙ sym (ap (λ t. k / vector_count t) none);
      room = room;
    }

-- the ranks of the first component and of those after it
vector_of_rest : (a : ℕ) (t : List ℕ) (k : ℕ) →
    vector_of (a ∷ t) (k % vector_count (a ∷ t)) ≡ (k / vector_count t % (a + 1)) ∷ vector_of t (k % vector_count t)
vector_of_rest a t k =
    let c = vector_count t in
    let low = mod_below k c (count_pos t) in
    let e : k % vector_count (a ∷ t) ≡ (k / c % (a + 1)) * c + k % c = mod-mul k {m = a + 1} {c = c} (omega arith) (count_pos t) in
    ap₂ ◌∷◌
    (ap (λ x. x / c) e ∙ digits_div (k / c % (a + 1)) low)
    (ap (λ x. vector_of t (x % c)) e ∙ ap (vector_of t) (digits_mod (k / c % (a + 1)) low))

-- one rank more
pub ranks_more : (tops v : List ℕ) (k i left : ℕ) → i < length tops → RanksFrom tops v k (i + 1) left →
    RanksFrom tops (set v i (left % (get_or tops i 0 + 1))) k i (left / (get_or tops i 0 + 1))
ranks_more tops v k i left h r =
    let a = get_or tops i 0 in
    let t = drop (i + 1) tops in
    let c = vector_count t in
    let split : drop i tops ≡ a ∷ t = drop_more tops i 0 h in
    let front = take (length tops) v in
    let inside : i < length front = omega (arith, length-take-le (length tops) v r.room) in
    record {
      ranks =
          ap (drop i) (take-set-lt (length tops) v i (left % (a + 1)) h)
          ∙ drop-set front i (left % (a + 1)) inside
          ∙ ap₂ ◌∷◌ (ap (λ x. x % (a + 1)) r.rest) r.ranks
          ∙ sym (vector_of_rest a t k)
          ∙ sym (ap (λ u. vector_of u (k % vector_count u)) split);
      rest =
          ap (λ x. x / (a + 1)) r.rest
          ∙ div-div-eq-div-mul k c (a + 1)
          ∙ ap (λ x. k / x) (mul_comm c (a + 1))
          ∙ sym (ap (λ u. k / vector_count u) split);
      room = omega (arith, r.room, length-set v i (left % (a + 1)));
    }

-- all of them
pub ranks_all : (tops v : List ℕ) (k left : ℕ) → RanksFrom tops v k 0 left → k < vector_count tops → take (length tops) v ≡ vector_of tops k
ranks_all tops v k left r h = r.ranks ∙ ap (vector_of tops) (mod-eq_of_lt h)

-- ## The tops that are left

-- the last of them stands at the place that is the number of those before it
pub record LastLeft (tops rest before : List ℕ) (top : ℕ) : Type 0 where
  pub long : length rest ≡ length before + 1
  pub inside : length before < length tops
  pub is : top ≡ get_or tops (length before) 0
  pub front : before ≡ take (length before) tops

pub last_left : (tops rest before : List ℕ) (top : ℕ) → rest ≡ take (length rest) tops → rest ≡ before ++ top ∷ [] → LastLeft tops rest before top
last_left tops rest before top e f =
    let long : length rest ≡ length before + 1 = ap length f ∙ length_push before top in
    let inside : length before < length tops = omega (arith, ap length e, length-take (length rest) tops) in
    let parts = same_from_push before (take (length before) tops) top (get_or tops (length before) 0)
    (sym f ∙ e ∙ ap (λ n. take n tops) long ∙ take_more tops (length before) 0 inside) in
    record { long = long; inside = inside; is = parts.1; front = parts.0 }
