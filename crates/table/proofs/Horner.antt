-- The number of a vector, rank by rank from the first. Assumes nothing.
use Rattle.std.proofs.Common.{◌≡◌, ℕ, ◌+◌, ◌*◌, ◌<◌, ◌≤◌, Bool, true, false, cond, T, List, ◌∷◌, length, Some, None, refl, ◌∙◌, mul-le-mul_right, mul-le-mul_left, arith}
use Rattle.std.proofs.lemmas.Bool.{le-leb}
use Rattle.structure.specs.Shape.{within, vector_count}
use Rattle.structure.specs.Order.{number_in}
use Rattle.structure.proofs.Numbers.{count_pos, number_inside}
use Rattle.structure.proofs.Below.{length_within}
use Rattle.table.specs.Table.{number_if_within}

-- the ranks read so far are within their tops, and stand for n; the tops ts and the ranks w are left
pub record Read (tops v ts w : List ℕ) (n : ℕ) : Type 0 where
  pub long : length w ≡ length ts
  pub is : number_if_within tops v ≡ cond (within ts w) (Some (n * vector_count ts + number_in ts w)) None
  pub room : (n + 1) * vector_count ts ≤ vector_count tops

-- one rank more that is not over its top: the number stays small, and goes on
module _ {tops v ts w later_ts later_w : List ℕ} {n a r : ℕ} (read : Read tops v ts w n) (step : (w ≡ r ∷ later_w) × (ts ≡ a ∷ later_ts)) (l : r ≤ a) where
  -- the same, with the rank and its top in view
  here : Read tops v (a ∷ later_ts) (r ∷ later_w) n
  here = rw (step.0, step.1) at read

  pub read_room : n * (a + 1) + r < vector_count tops
  read_room = omega (arith, here.room, mul-le-mul_left ((n + 1) * (a + 1)) (count_pos later_ts))

  pub read_next : Read tops v later_ts later_w (n * (a + 1) + r)
  read_next =
      let count = vector_count later_ts in
      let number = number_in later_ts later_w in
      let e : n * ((a + 1) * count) + (r * count + number) ≡ (n * (a + 1) + r) * count + number = omega arith in
      record {
        long = omega (arith, here.long);
        is = here.is ∙ rw (le-leb r a l, e);
        room = omega (arith, here.room, mul-le-mul_right count l);
      }

-- ## Where a vector has a number

none_where : (b : Bool) (k : ℕ) → (T b → ⊥) → None ≡ cond b (Some k) None
none_where true k h = absurd (h tt)
none_where false k h = refl

some_where : (b : Bool) (k n c : ℕ) → (T b → k < c) → Some n ≡ cond b (Some k) None → n < c
some_where true k n c h e = let f : n ≡ k = cc in omega (arith, f, h tt)
some_where false k n c h e = absurd cc

module _ (tops v : List ℕ) where
  -- a vector of another length has none
  pub number_long : (length v ≡ length tops → ⊥) → None ≡ number_if_within tops v
  number_long n = none_where (within tops v) (number_in tops v) (λ t. n (length_within tops v t))

  -- it is below the count
  pub number_below : (n : ℕ) → Some n ≡ number_if_within tops v → n < vector_count tops
  number_below n e = some_where (within tops v) (number_in tops v) n (vector_count tops) (number_inside tops v) e
