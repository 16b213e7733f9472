-- What a chain over the pairs of two lists gives, in the words of the definitions by cases. Assumes nothing.
use Rattle.std.proofs.Common.{◌≡◌, ℕ, zero, suc, ◌+◌, ◌≤◌, ◌||◌, ltb, List, [], ◌∷◌, map, length, take, fold, refl, ap, arith}
use Rattle.std.specs.List.{zip, list_any}
use Rattle.structure.specs.Conditions.{any_sum_over}
use Rattle.promise.specs.Figures.{Rows, shares_at}
use Rattle.tally.specs.Model.{rows_of}
use Rattle.tally.specs.declared.row.Row.{Row}

-- some pair is over d together
pub any_sum : (d : ℕ) (xs ys : List ℕ) → list_any (λ (p : ℕ × ℕ). ltb d (p.0 + p.1)) (zip xs ys) ≡ any_sum_over d xs ys
any_sum d [] ys = refl
any_sum d (x ∷ xs) [] = refl
any_sum d (x ∷ xs) (y ∷ ys) = ap (λ b. ltb d (x + y) || b) (any_sum d xs ys)

-- the steps of a product over the components and their ranks
pub fold_shares : (step : ℕ → ℕ → ℕ) (factor : ℕ → ℕ) (at : Rows → ℕ → ℕ) (a : ℕ) (rows : List Row) (v : List ℕ) →
    fold (λ b (p : Row × ℕ). step b (factor (at (rows_of p.0) p.1))) a (zip rows v) ≡ fold step a (map factor (shares_at at (map rows_of rows) v))
fold_shares step factor at a [] v = refl
fold_shares step factor at a (r ∷ rows) [] = refl
fold_shares step factor at a (r ∷ rows) (x ∷ v) = fold_shares step factor at (step a (factor (at (rows_of r) x))) rows v

-- ranks past the last component do not count
pub shares_at_front : (at : Rows → ℕ → ℕ) (rows : List Rows) (v : List ℕ) (n : ℕ) → length rows ≤ n → shares_at at rows (take n v) ≡ shares_at at rows v
shares_at_front at [] v n h = refl
shares_at_front at (r ∷ rows) v zero h = absurd (omega arith)
shares_at_front at (r ∷ rows) [] (suc n) h = refl
shares_at_front at (r ∷ rows) (x ∷ v) (suc n) h = ap (λ ss. at r x ∷ ss) (shares_at_front at rows v n (omega arith))
