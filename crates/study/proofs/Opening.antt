-- What the loops of an open have read and made so far. Assumes nothing.
use Rattle.std.proofs.Common.{◌≡◌, ℕ, zero, suc, ◌<◌, ◌≤◌, List, [], ◌∷◌, map, length, min, get_or, refl, ap, ap₂, le_of_suc-le-suc, arith}
use Rattle.structure.specs.Shape.{Shape, Lawful, TopsFit}

-- tops of at most 7 are made of as they are
pub made_low : {A : Type 0} (f : ℕ → A) (xs : List ℕ) → ((k : ℕ) → k < length xs → get_or xs k 0 ≤ 7) → map (λ x. f (min x 7)) xs ≡ map f xs
made_low f [] low = refl
made_low f (x ∷ xs) low = ap₂ ◌∷◌ (ap f (omega (arith, low 0 (omega arith)))) (made_low f xs (λ k h. low (suc k) (omega arith)))

-- each top is at most 7
top_low : (tops : List ℕ) → TopsFit tops → (k : ℕ) → k < length tops → get_or tops k 0 ≤ 7
top_low [] t k h = absurd (omega arith)
top_low (a ∷ tops) t zero h = t.1
top_low (a ∷ tops) t (suc k) h = top_low tops t.2 k (le_of_suc-le-suc h)

-- and so is each top of a lawful structure, where they are read into a list of length n
pub tops_low : (s : Shape) (xs : List ℕ) {n : ℕ} → Lawful s → xs ≡ s.tops → n ≡ length xs → (k : ℕ) → k < n → get_or xs k 0 ≤ 7
tops_low s xs l e m k h = rw e (top_low s.tops l.tops_fit k (omega (arith, ap length e)))
