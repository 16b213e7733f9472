-- Tests that a call or a line has passed. Assumes nothing.
use Rattle.std.proofs.Common.{◌≡◌, ℕ, ◌+◌, ◌<◌, Bool, true, false, cond, not, eqb, leb, List, [], ◌∷◌, refl, ap, ◌∙◌, arith}
use Rattle.std.specs.List.{AllByRecursion}
use Rattle.std.proofs.lemmas.Bool.{not-false, not_from_true, eqb-true, eq-eqb, le-leb, and_from}
use Rattle.structure.specs.Refusals.{Answer, refused, given, first_refusal}
use Rattle.structure.specs.Conditions.{outside}

-- none of the conditions holds
abbrev pub Passed : List (Bool × ℕ) → Type 0
Passed = AllByRecursion (λ t. t.0 ≡ false)

not_refused : {A : Type 0} (b : Bool) (n : ℕ) (more : Answer A) (a : A) → cond b (refused n) more ≡ given a → (b ≡ false) × (more ≡ given a)
not_refused true n more a e = let z : ◌≡◌ {A = ℕ} 0 1 = cc in absurd (omega arith)
not_refused false n more a e = (refl, e)

-- what was asked for is given where none holds, and only there
pub given_passed : {A : Type 0} (tests : List (Bool × ℕ)) (a b : A) → first_refusal tests a ≡ given b → Passed tests × (a ≡ b)
given_passed [] a b e = (tt, cc)
given_passed (t ∷ tests) a b e =
    let here = not_refused t.0 t.1 (first_refusal tests a) b e in
    let later = given_passed tests a b here.1 in
    ((here.0, later.0), later.1)

pub passed_given : {A : Type 0} (tests : List (Bool × ℕ)) (a : A) → Passed tests → first_refusal tests a ≡ given a
passed_given [] a pass = refl
passed_given (t ∷ tests) a pass = ap (λ b. cond b (refused t.1) (first_refusal tests a)) pass.0 ∙ passed_given tests a pass.1

-- ## Conditions that do not hold

pub same_count : (m n : ℕ) → not (eqb m n) ≡ false → m ≡ n
same_count m n e = eqb-true m n (not-false (eqb m n) e)

pub count_same : (m n : ℕ) → m ≡ n → not (eqb m n) ≡ false
count_same m n e = not_from_true (eqb m n) (eq-eqb m n e)

pub inside : (k n : ℕ) → k < n → outside (k + 1) n ≡ false
inside k n h = not_from_true _ (and_from (leb 1 (k + 1)) (leb (k + 1) n) (le-leb 1 (k + 1) (omega arith)) (le-leb (k + 1) n (omega arith)))
