-- What the whole use of a case's study gives. Assumes nothing.
use Rattle.std.proofs.Common.{◌≡◌, ℕ, suc, ◌+◌, ◌-◌, ◌<◌, ◌≤◌, List, [], ◌∷◌, ◌++◌, length, take, set, sym, refl, ap, ◌∙◌, subst, append_assoc, append-nil, arith, take-suc-set}
use Rattle.std.proofs.lemmas.List.{map-set, take_all, length-set, length-map}
use Rattle.structure.specs.Refusals.{given}
use Rattle.structure.specs.Shape.{Shape, Lawful}
use Rattle.promise.specs.Figures.{Rows}
use Rattle.promise.specs.Use.{Use, opened, entered, Word, still_open, shape_of, StepRule, examined}
use Rattle.promise.specs.Held.{Held, first_held, figures_from, levels_to}
use Rattle.promise.specs.Calls.{Opens, Steps}
use Rattle.promise.specs.InForce.{components, in_force}
use Rattle.promise.specs.Rules.{Ruled, Lived}
use Rattle.promise.proofs.Rules.{lawful_shape}
use Rattle.promise.proofs.Lived.{lived_left}
use Rattle.promise.proofs.Stands.{stands}
use Rattle.casetext.specs.Case.{Content}
use Rattle.summary.specs.Lines.{search_line, all_lines}
use Rattle.summary.specs.Uses.{shape_in, then_entered, searched_use, use_of, Sound}
use Rattle.summary.specs.Reports.{Reported}

shape_entered : (u : Use) (i : ℕ) (rows : List Rows) → shape_of (then_entered u i rows) ≡ shape_of u
shape_entered u i [] = refl
shape_entered u i (r ∷ rows) = shape_entered (entered u i r (given tt)) (suc i) rows

-- opened, entered and stepped, the calls are the whole use
pub lived_searched : (s : Shape) (tags : List ℕ) (rows : List Rows) (number : ℕ) (word : Word) (h₀ h₁ h₂ : Held) → Lawful s → length tags ≡ length s.tops → Opens s h₀ → ((u : Use) → Lived u h₀ → Lived (then_entered u 1 rows) h₁) → Steps s h₁ 65536 number word h₂ → Lived (searched_use s tags rows number word) h₂
lived_searched s tags rows number word h₀ h₁ h₂ lawful tagged opens enters steps =
    let same = shape_entered (opened s tags) 1 rows in
    (h₁, enters (opened s tags) (lawful, tagged, opens), subst (λ z. Steps z h₁ 65536 number word h₂) (sym same) steps)

-- ## The rows in force

-- each row is set at its place
rows_entered : (u : Use) (k : ℕ) (rows : List Rows) → length (in_force u) ≡ k + length rows → in_force (then_entered u (suc k) rows) ≡ take k (in_force u) ++ rows
rows_entered u k [] e = sym (append-nil (take k (in_force u)) ∙ take_all k (in_force u) (omega arith))
rows_entered u k (r ∷ rows) e =
    let next = entered u (suc k) r (given tt) in
    let there : suc k - 1 ≡ k = omega arith in
    let set_here : in_force next ≡ set (in_force u) k r = map-set (λ c. c.rows) (components u) (suc k - 1) _ ∙ ap (λ p. set (in_force u) p r) there in
    let long : length (in_force next) ≡ suc k + length rows = ap length set_here ∙ simp length-set (omega (arith, e)) in
    let within : k < length (in_force u) = omega (arith, e) in
    let front : take (suc k) (in_force next) ≡ take k (in_force u) ++ (r ∷ []) = ap (take (suc k)) set_here ∙ take-suc-set (in_force u) k r within in
    rows_entered next (suc k) rows long ∙ ap (λ xs. xs ++ rows) front ∙ append_assoc (take k (in_force u)) (r ∷ []) rows

-- where there are rows for every component, those are in force
rows_all : (s : Shape) (tags : List ℕ) (rows : List Rows) → Lawful s → length tags ≡ length s.tops → length rows ≡ length s.tops → in_force (then_entered (opened s tags) 1 rows) ≡ rows
rows_all s tags rows lawful tagged all =
    let first = ap (λ h. h.rows) (lived_left (opened s tags) (first_held s) (lawful, tagged, refl)).1 in
    rows_entered (opened s tags) 0 rows (ap length (sym first) ∙ simp length-map (omega (arith, all)))

-- ## What is reported

module _ (c : Content) (number : ℕ) (word : Word) (h : Held) (lived : Lived (use_of c number word) h) where
  same : shape_of (use_of c number word) ≡ shape_in c
  same = shape_entered (opened (shape_in c) c.tags) 1 c.rows

  pub best_held : h.best ≡ c.best
  best_held = ap (λ x. x.best) (lived_left (use_of c number word) h lived).1 ∙ ap (λ s. s.best) same

  -- the structure keeps the rules, and has a tag for each component
  opened_ruled : (i : ℕ) (u : Use) (rows : List Rows) → Ruled (then_entered u i rows) → Ruled u
  opened_ruled i u [] ruled = ruled
  opened_ruled i u (r ∷ rows) ruled = (opened_ruled (suc i) (entered u i r (given tt)) rows ruled).0

  -- a budget for all vectors suffices
  ends : word ≡ still_open → ⊥
  ends opened-still =
      let ruled = (lived_left (use_of c number word) h lived).0 in
      let few = (lawful_shape (use_of c number word) ruled).countable in
      let before = then_entered (opened (shape_in c) c.tags) 1 c.rows in
      let rule = subst (λ w. StepRule (shape_of before) (examined before) 65536 number w) opened-still ruled.1 in
      omega (arith, few, rule.stops.0, rule.stops.1)

  pub reported : Sound c → (out : List ℕ) → out ≡ search_line word ++ all_lines (figures_from h) (levels_to c.best) → Reported c out
  reported sound out written =
      let left = lived_left (use_of c number word) h lived in
      let first = opened_ruled 1 (opened (shape_in c) c.tags) c.rows left.0.0 in
      record {
        number = number;
        word = word;
        ended = ends;
        ruled = left.0;
        rows = rows_all (shape_in c) c.tags c.rows first.0 first.1 sound.all;
        lines = written ∙ ap (λ x. search_line word ++ all_lines (figures_from x) (levels_to c.best)) left.1;
        promised = λ j some most. stands (use_of c number word) left.0 j some (subst (λ s. j ≤ s.best) (sym same) most);
      }
