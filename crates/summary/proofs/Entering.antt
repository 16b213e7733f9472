-- One more component's rows entered. Assumes nothing.
use Rattle.std.proofs.Common.{◌≡◌, ℕ, suc, ◌+◌, ◌<◌, true, List, [], ◌∷◌, ◌++◌, map, length, get_or, take, is_ok, Ok, Err, vec_items, Result, sym, refl, ap, ◌∙◌, subst, ap₂, arith}
use Rattle.std.proofs.lemmas.List.{take_more, length-take, length-map, get_or-map}
use Rattle.structure.specs.declared.refusal.Refusal.{Refusal}
use Rattle.structure.specs.Refusals.{Answer, given, verdict}
use Rattle.promise.specs.Figures.{Rows}
use Rattle.promise.specs.Use.{Use, entered}
use Rattle.promise.specs.Held.{Held}
use Rattle.promise.specs.Calls.{enter_answer, Enters}
use Rattle.promise.specs.Rules.{Lived}
use Rattle.casetext.specs.declared.case.Shares.{Shares}
use Rattle.casetext.specs.Contents.{rows_of}
use Rattle.summary.specs.Uses.{then_entered, Enterable}

-- a call that did what it was asked for has not failed
pub ok_from_given : (r : Result (Unit {0}) Refusal) → verdict r ≡ given tt → is_ok r ≡ true
ok_from_given (Ok _) e = refl
ok_from_given (Err _) e = let z : ◌≡◌ {A = ℕ} 0 1 = cc in absurd (omega arith)

-- the shares s, at place k of all, are entered at component k + 1 of a study with these tops
pub record Entering (tops : List ℕ) (all : List Shares) (k : ℕ) (s : Shares) (h : Held) (a : Answer (Unit {0})) (h' : Held) : Type 0 where
  pub accepted : a ≡ given tt
  pub enters : Enters h (k + 1) (get_or (map rows_of all) k (rows_of s)) (given tt) h'
  pub tops_kept : h'.tops ≡ tops

module _ (tops : List ℕ) (all : List Shares) (k : ℕ) (s : Shares) (h : Held) (a : Answer (Unit {0})) (h' : Held) where
  pub entering : Enterable tops (map rows_of all) → k < length all → s ≡ get_or all k s → h.tops ≡ tops → (up down : List ℕ) → up ≡ vec_items s.up → down ≡ vec_items s.down → Enters h (k + 1) (record { up = up; down = down }) a h' → Entering tops all k s h a h'
  entering enterable within is same up down up_is down_is call =
      let pair : List ℕ → List ℕ → Rows = λ up down. record { up = up; down = down } in
      let r = pair up down in
      let row = ap₂ pair up_is down_is in
      let next = get_or (map rows_of all) k (rows_of s) in
      let r-is : r ≡ next = row ∙ ap rows_of is ∙ sym (get_or-map rows_of all k s (rows_of s) within) in
      let long : k < length (map rows_of all) = simp length-map within in
      let answers = ap₂ (λ t x. enter_answer t (k + 1) x) same r-is in
      let yes : a ≡ given tt = call.0 ∙ answers ∙ enterable k (rows_of s) long in
      record {
        accepted = yes;
        enters = subst (λ b. Enters h (k + 1) next b h') yes (subst (λ x. Enters h (k + 1) x a h') r-is call);
        tops_kept = ap (λ m. m.tops) call.1 ∙ same;
      }

-- the last of the rows is entered last
then_entered_push : (u : Use) (i : ℕ) (rows : List Rows) (r : Rows) → then_entered u i (rows ++ (r ∷ [])) ≡ entered (then_entered u i rows) (i + length rows) r (given tt)
then_entered_push u i [] r = ap (λ k. entered u k r (given tt)) (omega arith)
then_entered_push u i (x ∷ rows) r =
    then_entered_push (entered u i x (given tt)) (suc i) rows r
    ∙ ap (λ k. entered (then_entered (entered u i x (given tt)) (suc i) rows) k r (given tt)) (omega arith)

-- after the first k rows, the next one is entered at component k + 1
pub lived_more : (u : Use) (rows : List Rows) (k : ℕ) (d : Rows) (h h' : Held) → k < length rows → Lived (then_entered u 1 (take k rows)) h → Enters h (k + 1) (get_or rows k d) (given tt) h' → Lived (then_entered u 1 (take (k + 1) rows)) h'
lived_more u rows k d h h' within before enters =
    let next = entered (then_entered u 1 (take k rows)) (k + 1) (get_or rows k d) (given tt) in
    let same : then_entered u 1 (take (k + 1) rows) ≡ next =
    ap (then_entered u 1) (take_more rows k d within) ∙ then_entered_push u 1 (take k rows) (get_or rows k d)
    ∙ ap (λ i. entered (then_entered u 1 (take k rows)) i (get_or rows k d) (given tt)) (simp length-take (omega arith)) in
    subst (λ v. Lived v h') (sym same) (h, before, enters)
