-- The record that show gives is of a minimal vector that the search has met, after every use. Assumes nothing.
use Rattle.std.proofs.Common.{◌≡◌, ℕ, ◌-◌, ◌<◌, false, cond, not, eqb, List, length, sym, subst, arith}
use Rattle.std.proofs.lemmas.Bool.{cond_both}
use Rattle.structure.specs.Refusals.{Answer, refused, given, accepted}
use Rattle.structure.specs.Conditions.{outside}
use Rattle.structure.specs.Listing.{Holds}
use Rattle.structure.proofs.Listing.{listing}
use Rattle.structure.proofs.Judged.{from_one_to}
use Rattle.promise.specs.Use.{Use, Side, path_list, cut_list, shape_of, examined}
use Rattle.promise.specs.Calls.{list_of, no_entry, shown_entry, Shows}
use Rattle.promise.specs.InForce.{left_by}
use Rattle.promise.specs.Rules.{Ruled}
use Rattle.promise.specs.Promise.{given_by}
use Rattle.promise.specs.Shown.{MinimalOn, Met, ShowsMet}
use Rattle.promise.proofs.Rules.{lawful_shape, examined_most}
use Rattle.promise.proofs.Lived.{lived_left}

module _ (u : Use) (ruled : Ruled u) where
  -- each list holds exactly the minimal vectors met
  holds : (d : Side) → Holds (shape_of u) (MinimalOn d (shape_of u)) (examined u) (list_of (left_by u) d)
  holds path_list = (listing (shape_of u) (lawful_shape u ruled)).paths_held (examined u) (examined_most u ruled)
  holds cut_list = (listing (shape_of u) (lawful_shape u ruled)).cuts_held (examined u) (examined_most u ruled)

  entry_met : (d : Side) (k : ℕ) → outside k (length (list_of (left_by u) d)) ≡ false → Met u d (shown_entry (left_by u) d k)
  entry_met d k inside =
      let from = from_one_to k (length (list_of (left_by u) d)) inside in
      let within : k - 1 < length (list_of (left_by u) d) = omega arith in
      let h = holds d in
      record { number = h.number (k - 1); met = h.met (k - 1) within; is = h.is (k - 1) no_entry within; levels = h.levels (k - 1) no_entry within }

  left_shown : (d : Side) (k : ℕ) (row : List ℕ) (a : Answer (ℕ × ℕ)) (row' : List ℕ) → Shows (left_by u) d k row a row' →
      given_by a (λ l. Met u d (record { vector = row'; first = l.0; last = l.1 }))
  left_shown d k row a row' shows =
      let e = shown_entry (left_by u) d k in
      let P : Answer (ℕ × ℕ) → Type 0 =
      λ b. row' ≡ cond (accepted b) e.vector row → given_by b (λ l. Met u d (record { vector = row'; first = l.0; last = l.1 })) in
      let out = outside k (length (list_of (left_by u) d)) in
      let bad = not (eqb (length row) (length (left_by u).tops)) in
      let answered : P (cond out (refused 31) (cond bad (refused 32) (given (e.first, e.last)))) =
      cond_both out (refused 31) (cond bad (refused 32) (given (e.first, e.last))) P (λ _ _. tt)
      (λ inside. cond_both bad (refused 32) (given (e.first, e.last)) P (λ _ _. tt)
      (λ _ wrote. subst (λ v. Met u d (record { vector = v; first = e.first; last = e.last })) (sym wrote) (entry_met d k inside))) in
      subst P (sym shows.0) answered shows.1

pub shows_met : ShowsMet
shows_met h d k row a row' shows u lived =
    let left = lived_left u h lived in
    left_shown u left.0 d k row a row' (subst (λ h. Shows h d k row a row') left.1 shows)
