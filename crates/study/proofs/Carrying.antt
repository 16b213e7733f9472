-- A module's figures level by level as rows of shares. Assumes nothing.
use Rattle.std.proofs.Common.{◌≡◌, ℕ, zero, suc, ◌+◌, ◌-◌, ◌<◌, ◌≤◌, List, [], ◌∷◌, ◌++◌, map, length, take, set, sym, ap, ◌∙◌, ap₂, add-one, arith}
use Rattle.std.proofs.lemmas.List.{map_push, take_more_set}
use Rattle.promise.specs.Held.{levels_to}

levels_more : (f : ℕ → ℕ) (i : ℕ) → map f (levels_to (i + 1)) ≡ map f (levels_to i) ++ f (i + 1) ∷ []
levels_more f i = rw add-one (map_push f (levels_to i) (suc i))

-- one level more, at its place
pub figures_more : (f : ℕ → ℕ) (xs : List ℕ) (i s level n m : ℕ) → i < length xs → level ≡ i + 1 → s ≡ f level → n ≡ level → m ≡ level →
    take (level - 1) xs ≡ map f (levels_to (level - 1)) → take n (set xs i s) ≡ map f (levels_to m)
figures_more f xs i s level n m h is e long all so_far =
    let before : level - 1 ≡ i = omega arith in
    let here : n ≡ i + 1 = omega arith in
    let end : i + 1 ≡ m = omega arith in
    ap (λ k. take k (set xs i s)) here ∙ take_more_set xs i s h ∙
    ap₂ (λ ys y. ys ++ y ∷ []) (ap (λ k. take k xs) (sym before) ∙ so_far ∙ ap (λ k. map f (levels_to k)) before) (e ∙ ap f is) ∙
    sym (levels_more f i) ∙ ap (λ k. map f (levels_to k)) end

-- where the first level is past the last, there is none
pub figures_none : (f : ℕ → ℕ) (xs : List ℕ) (level n m : ℕ) → n ≡ m → m < level → (1 ≤ m → level ≤ m) → take n xs ≡ map f (levels_to m)
figures_none f xs level n zero e past within = ap (λ k. take k xs) e
figures_none f xs level n (suc m) e past within = absurd (omega (arith, within (omega arith)))
