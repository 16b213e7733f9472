-- A search vector by vector: its lists, its room, and a step in the making. For the code that does it. Assumes nothing.
use Rattle.std.proofs.Common.{◌≡◌, ℕ, ◌+◌, ◌<◌, ◌≤◌, Bool, true, false, ◌&&◌, ◌||◌, ltb, leb, List, [], ◌∷◌, ◌++◌, length, take, sym, refl, ap, ◌∙◌, subst, ap₂, ⊎_elim, append_assoc, append-nil, add-zero, arith}
use Rattle.std.proofs.lemmas.List.{take_more}
use Rattle.std.proofs.lemmas.Bool.{cases_lt}
use Rattle.structure.specs.Shape.{Shape, vector_count, vectors, vector_at}
use Rattle.structure.specs.Minimal.{Entry, highest_below, lowest_above, one_if, as_path, as_cut, path_entry, cut_entry, entries, paths_of, cuts_of}
use Rattle.structure.proofs.Vectors.{length_vectors}
use Rattle.promise.specs.Use.{Word, blocked, Stops}
use Rattle.promise.specs.Held.{Held, searched_to}
use Rattle.promise.specs.Calls.{Searches, Stepped}
use Rattle.promise.specs.Further.{next_vector, no_room, one_further, marked, Underway}
use Rattle.promise.proofs.Held.{same_held}

-- ## The lists

-- the entries of one vector more
pub entries_push : (of : List ℕ → List Entry) (xs : List (List ℕ)) (x : List ℕ) → entries of (xs ++ (x ∷ [])) ≡ entries of xs ++ of x
entries_push of [] x = append-nil (of x)
entries_push of (y ∷ ys) x = ap (λ es. of y ++ es) (entries_push of ys x) ∙ sym (append_assoc (of y) (entries of ys) (of x))

module _ (s : Shape) (k : ℕ) (more : k < vector_count s.tops) where
  first_more : take (k + 1) (vectors s.tops) ≡ take k (vectors s.tops) ++ (vector_at s k ∷ [])
  first_more = take_more (vectors s.tops) k [] (omega (arith, length_vectors s.tops))

  pub paths_more : paths_of s (k + 1) ≡ paths_of s k ++ path_entry s (vector_at s k)
  paths_more = ap (entries (path_entry s)) first_more ∙ entries_push (path_entry s) (take k (vectors s.tops)) (vector_at s k)

  pub cuts_more : cuts_of s (k + 1) ≡ cuts_of s k ++ cut_entry s (vector_at s k)
  cuts_more = ap (entries (cut_entry s)) first_more ∙ entries_push (cut_entry s) (take k (vectors s.tops)) (vector_at s k)

-- a search that goes on to the next vector
pub searches_further : (s : Shape) (h : Held) → Searches s h → h.examined < vector_count s.tops → Searches s (one_further s h)
searches_further s h at more = record {
  tops = at.tops;
  best = at.best;
  vectors = at.vectors;
  examined = omega arith;
  paths = ap (λ es. es ++ path_entry s (next_vector s h)) at.paths ∙ sym (paths_more s h.examined more);
  cuts = ap (λ es. es ++ cut_entry s (next_vector s h)) at.cuts ∙ sym (cuts_more s h.examined more);
}

-- ## Room

-- an entry is needed where its test passes
some_one_if : (b : Bool) (e : Entry) → ltb 0 (length (one_if b e)) ≡ b
some_one_if true e = refl
some_one_if false e = refl

-- the next vector is blocked where the lists have no room for it
pub blocked_held : (s : Shape) (h : Held) → Searches s h → blocked s h.examined ≡ no_room s h
blocked_held s h at =
    let x : List ℕ = next_vector s h in
    ap₂ ◌||◌
    (ap₂ ◌&&◌ (some_one_if (ltb (highest_below s x) (s.level x)) (as_path s x)) (ap (λ es. leb 256 (length es)) (sym at.paths)))
    (ap₂ ◌&&◌ (some_one_if (ltb (s.level x) (lowest_above s x)) (as_cut s x)) (ap (λ es. leb 256 (length es)) (sym at.cuts)))

-- ## A step in the making

-- a study whose search has come to k vectors, with the rest as h has it
pub searched_is : (s : Shape) (h h' : Held) (k : ℕ) (f : Bool) → Searches s h' → h'.tops ≡ h.tops → h'.best ≡ h.best → h'.vectors ≡ h.vectors →
    h'.rows ≡ h.rows → h'.examined ≡ k → h'.finished ≡ f → h' ≡ searched_to s h k f
searched_is s h h' k f at tops best vectors rows examined finished =
    same_held h' (searched_to s h k f) tops best vectors rows examined finished
    (at.paths ∙ ap (paths_of s) examined) (at.cuts ∙ ap (cuts_of s) examined)

-- it searches the structure, where h did
searches_to : (s : Shape) (h : Held) (k : ℕ) (f : Bool) → Searches s h → k ≤ vector_count s.tops → Searches s (searched_to s h k f)
searches_to s h k f at few = record { tops = at.tops; best = at.best; vectors = at.vectors; examined = few; paths = refl; cuts = refl }

module _ (s : Shape) (h : Held) (at : Searches s h) (budget : ℕ) where
  -- before its first vector
  pub underway_none : Underway s h budget 0 h
  underway_none = record {
    within_budget = omega arith;
    within_vectors = omega (arith, at.examined);
    none_blocked = λ i low. absurd (omega arith);
    so_far = searched_is s h h (h.examined + 0) h.finished at refl refl refl refl (sym (add-zero h.examined)) refl;
  }

  module _ (number : ℕ) (h' : Held) (on : Underway s h budget number h') where
    -- its search is the structure's, and has come as many vectors further
    pub underway_searches : Searches s h'
    underway_searches = subst (Searches s) (sym on.so_far) (searches_to s h (h.examined + number) h.finished at on.within_vectors)

    pub underway_examined : h'.examined ≡ h.examined + number
    underway_examined = ap (λ k. k.examined) on.so_far

    -- one vector more
    pub underway_more : number < budget → h'.examined < h'.vectors → no_room s h' ≡ false → Underway s h budget (number + 1) (one_further s h')
    underway_more left more room = record {
      within_budget = omega arith;
      within_vectors = omega (arith, inside, underway_examined);
      none_blocked = unblocked;
      so_far = searched_is s h (one_further s h') (h.examined + (number + 1)) h.finished (searches_further s h' underway_searches inside)
          (ap (λ k. k.tops) on.so_far) (ap (λ k. k.best) on.so_far) (ap (λ k. k.vectors) on.so_far) (ap (λ k. k.rows) on.so_far)
          (omega (arith, underway_examined)) (ap (λ k. k.finished) on.so_far);
    }
      where
        inside : h'.examined < vector_count s.tops
        inside = omega (arith, underway_searches.vectors)

        free : blocked s (h.examined + number) ≡ false
        free = ap (blocked s) (sym underway_examined) ∙ blocked_held s h' underway_searches ∙ room

        unblocked : (i : ℕ) → i < number + 1 → blocked s (h.examined + i) ≡ false
        unblocked i low = ⊎_elim
            (λ before. on.none_blocked i before)
            (λ last. let same : number ≡ i = omega arith in subst (λ k. blocked s (h.examined + k) ≡ false) same free)
            (cases_lt i number)

    -- and its end, with the mark of its word
    pub underway_ends : (word : Word) → Stops s h.examined budget number word → Stepped s h budget number word (marked word h')
    underway_ends word stops = record {
      rule = record { within_budget = on.within_budget; within_vectors = on.within_vectors; none_blocked = on.none_blocked; stops = stops };
      after = ap (marked word) on.so_far;
    }
