-- The levels one rank lower and one rank higher, asked of a structure component by component. Assumes nothing.
use Rattle.std.proofs.Common.{◌≡◌, ℕ, ◌+◌, ◌-◌, ◌<◌, ◌≤◌, ◌⊎◌, ⊎_elim, min, Bool, true, false, cond, T, List, ◌∷◌, length, get_or, drop, set, Some, None, Option, sym, refl, ap, ◌∙◌, arith, length-drop}
use Rattle.std.proofs.lemmas.List.{drop_more}
use Rattle.structure.specs.Shape.{Shape, within}
use Rattle.structure.specs.Minimal.{highest_below, lowest_above}
use Rattle.structure.specs.Questions.{level_if_within}
use Rattle.structure.proofs.Places.{within_lower, within_raise}
use Rattle.structure.proofs.Neighbourhood.{highest_to, lowest_to, lowest_counts, lowest_passes, highest_to_end, lowest_to_end}

some_if : (b : Bool) (n : ℕ) → T b → cond b (Some n) None ≡ Some n
some_if true n t = refl
some_if false n t = absurd t

-- a structure answers for its own vectors
pub level_answered : (s : Shape) (x : List ℕ) → T (within s.tops x) → level_if_within s x ≡ Some (s.level x)
level_answered s x t = some_if (within s.tops x) (s.level x) t

module _ (s : Shape) (x : List ℕ) (i : ℕ) (here : T (within s.tops x)) where
  -- ## Lower

  pub lower_answered : level_if_within s (set x i (get_or x i 0 - 1)) ≡ Some (s.level (set x i (get_or x i 0 - 1)))
  lower_answered = level_answered s (set x i (get_or x i 0 - 1)) (within_lower s.tops x i here)

  -- ## Higher

  pub upper_answered : get_or x i 0 < get_or s.tops i 0 → level_if_within s (set x i (get_or x i 0 + 1)) ≡ Some (s.level (set x i (get_or x i 0 + 1)))
  upper_answered h = level_answered s (set x i (get_or x i 0 + 1)) (within_raise s.tops x i here h)

  module _ (best lowest : ℕ) (e : lowest ≡ lowest_to best s.level s.tops x i) where
    pub lowest_more : (level : ℕ) (o : Option ℕ) → get_or x i 0 < get_or s.tops i 0 →
        o ≡ level_if_within s (set x i (get_or x i 0 + 1)) → o ≡ Some level → min level lowest ≡ lowest_to best s.level s.tops x (i + 1)
    lowest_more level o h a b =
        let l : level ≡ s.level (set x i (get_or x i 0 + 1)) = cc (upper_answered h) in
        omega (arith, l, lowest_counts best s.level s.tops x i h, e)

    pub lowest_same : get_or s.tops i 0 ≤ get_or x i 0 → lowest ≡ lowest_to best s.level s.tops x (i + 1)
    lowest_same h = e ∙ sym (lowest_passes best s.level s.tops x i h)

-- ## All components

module _ (s : Shape) (x : List ℕ) (i : ℕ) where
  pub highest_found : (highest : ℕ) → i ≡ length x → highest ≡ highest_to s.level x i → highest ≡ highest_below s x
  highest_found highest all e = e ∙ highest_to_end s.level x i all

  pub lowest_found : (best lowest : ℕ) → i ≡ length s.tops → length x ≡ length s.tops → best ≡ s.best → lowest ≡ lowest_to best s.level s.tops x i →
      lowest ≡ lowest_above s x
  lowest_found best lowest all m b e =
      e ∙ ap (λ z. lowest_to z s.level s.tops x i) b
      ∙ lowest_to_end s.best s.level s.tops x i all m

-- ## A vector and its tops, read side by side

-- the next is place i, and this is left of both
pub record Left (x tops : List ℕ) (i : ℕ) (ranks-left tops-left : List ℕ) : Type 0 where
  pub inside : i ≤ length x
  pub ranks : ranks-left ≡ drop i x
  pub bounds : tops-left ≡ drop i tops

-- what begins with y from place i on has y there
left_next : (xs : List ℕ) (i y : ℕ) (ys : List ℕ) → drop i xs ≡ y ∷ ys → (i < length xs) × (get_or xs i 0 ≡ y) × (ys ≡ drop (i + 1) xs)
left_next xs i y ys e =
    let h : i < length xs = omega (arith, length-drop i xs, ap length e) in
    let split = drop_more xs i 0 h in
    (h, cc, cc)

-- at the next rank and top: what they are, and what is left then
pub record Turn (x tops : List ℕ) (i r a j : ℕ) (ranks-left tops-left : List ℕ) : Type 0 where
  pub rank : get_or x i 0 ≡ r
  pub top : get_or tops i 0 ≡ a
  pub left : Left x tops j ranks-left tops-left

module _ (x tops : List ℕ) (i : ℕ) (xs ts : List ℕ) (left : Left x tops i xs ts) where
  pub turn : {r a j : ℕ} {xs' ts' : List ℕ} → xs ≡ r ∷ xs' → ts ≡ a ∷ ts' → j ≡ i + 1 → Turn x tops i r a j xs' ts'
  turn e f g =
      let p = left_next x i _ _ (sym left.ranks ∙ e) in
      let q = left_next tops i _ _ (sym left.bounds ∙ f) in
      record { rank = p.1; top = q.1; left = record { inside = omega (arith, p.0); ranks = cc; bounds = cc } }

  pub left_none : length x ≡ length tops → (length xs ≡ 0) ⊎ (length ts ≡ 0) → i ≡ length tops
  left_none m e =
      let p = ap length left.ranks ∙ length-drop i x in
      let q = ap length left.bounds ∙ length-drop i tops in
      ⊎_elim (λ h. omega (arith, left.inside)) (λ h. omega (arith, left.inside)) e
