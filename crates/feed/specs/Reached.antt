-- How many thresholds a sum reaches: a higher sum no fewer, one below all of them none, and one above all of them all.
-- Assumes nothing.
use Rattle.std.specs.Prelude.{◌≡◌, ℕ, ◌+◌, ◌<◌, ◌≤◌, cond, List, [], ◌∷◌, length, nat_le, refl}
use Rattle.std.proofs.Common.{arith, ap, ⊎_elim}
use Rattle.std.specs.List.{AllByRecursion}
use Rattle.std.proofs.lemmas.List.Sums.{sum_by-cons, sum_by-le-sum_by}
use Rattle.std.proofs.lemmas.Bool.{le-leb, lt-leb, cases_lt}
use Rattle.feed.specs.Feed.{reached}

-- one threshold, counted if it is reached
abbrev counted : ℕ → ℕ → ℕ
counted sum t = cond (nat_le t sum) 1 0

first_counted : (t : ℕ) (ts : List ℕ) (sum : ℕ) → reached (t ∷ ts) sum ≡ counted sum t + reached ts sum
first_counted t ts sum = sum_by-cons (counted sum) t ts

yes_counted : (t sum : ℕ) → t ≤ sum → counted sum t ≡ 1
yes_counted t sum h = ap (λ b. cond b 1 0) (le-leb t sum h)

not_counted : (t sum : ℕ) → sum < t → counted sum t ≡ 0
not_counted t sum h = ap (λ b. cond b 1 0) (lt-leb t sum h)

counted_rises : (t x y : ℕ) → x ≤ y → counted x t ≤ counted y t
counted_rises t x y h = ⊎_elim
    (λ l. omega (arith, not_counted t x l))
    (λ l. omega (arith, yes_counted t x l, yes_counted t y (omega arith)))
    (cases_lt x t)

-- a higher sum
pub reached_rises : (ts : List ℕ) (x y : ℕ) → x ≤ y → reached ts x ≤ reached ts y
reached_rises ts x y h = sum_by-le-sum_by (counted x) (counted y) ts (λ t. counted_rises t x y h)

-- a sum below all
pub reached_none : (ts : List ℕ) (sum : ℕ) → AllByRecursion (λ t. sum < t) ts → reached ts sum ≡ 0
reached_none [] sum h = refl
reached_none (t ∷ ts) sum h = omega (arith, first_counted t ts sum, not_counted t sum h.0, reached_none ts sum h.1)

-- a sum above all
pub reached_all : (ts : List ℕ) (sum : ℕ) → AllByRecursion (λ t. t ≤ sum) ts → reached ts sum ≡ length ts
reached_all [] sum h = refl
reached_all (t ∷ ts) sum h = omega (arith, first_counted t ts sum, yes_counted t sum h.0, reached_all ts sum h.1)
