-- What a structure's questions answer, place by place. Assumes nothing.
use Rattle.std.proofs.Common.{◌≡◌, ℕ, ◌+◌, ◌-◌, ◌<◌, ◌≤◌, leb, List, length, get_or, Some, None, unwrap_or, ap, ◌∙◌, arith}
use Rattle.std.proofs.lemmas.Bool.{and_from, le-leb, cond-true}
use Rattle.structure.specs.Questions.{inside, at_place}

-- the number at a place
pub place_at : (xs : List ℕ) (i : ℕ) → 1 ≤ i → i ≤ length xs → unwrap_or (at_place xs i) 0 ≡ get_or xs (i - 1) 0
place_at xs i p q =
    ap (λ o. unwrap_or o 0) (cond-true (inside i (length xs)) (Some (get_or xs (i - 1) 0)) None
    (and_from (leb 1 i) (leb i (length xs)) (le-leb 1 i p) (le-leb i (length xs) q)))

-- the number at the next place
pub place_next : (xs : List ℕ) (i : ℕ) → i < length xs → unwrap_or (at_place xs (i + 1)) 0 ≡ get_or xs i 0
place_next xs i h =
    place_at xs (i + 1) (omega arith) (omega arith)
    ∙ (let e : i + 1 - 1 ≡ i = omega arith in ap (λ k. get_or xs k 0) e)
