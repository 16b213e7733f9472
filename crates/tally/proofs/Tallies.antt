-- The records of a level one more at a time, and what a list of entries gives with one more. Assumes nothing.
use Rattle.std.proofs.Common.{◌≡◌, ℕ, ◌+◌, ◌<◌, max, true, false, cond, List, [], ◌∷◌, ◌++◌, map, length, get_or, take, fold, Some, None, Option, sym, refl, ap, ◌∙◌, ap₂, arith}
use Rattle.std.proofs.lemmas.List.{map_push, map_more, length-map, length_push, append-nil}
use Rattle.std.proofs.lemmas.List.Elements.{filter-append}
use Rattle.std.specs.Option.{option_map}
use Rattle.std.proofs.lemmas.List.Sums.{fold_push}
use Rattle.share.specs.Shares.{D, rounded, share_of_all, share_of_any}
use Rattle.structure.specs.Minimal.{Entry, covers}
use Rattle.promise.specs.Figures.{of_level, best_of, all_of}
use Rattle.tally.specs.Model.{rows_of, entry_of, reading_of, shares_by, entries_at}
use Rattle.tally.specs.declared.row.Row.{Row}
use Rattle.tally.specs.declared.record.Record.{Record}
use Rattle.tally.specs.declared.reading.Reading.{Reading}
use Rattle.tally.proofs.Pairs.{shares_at_front}

-- ## One entry more

module _ (shares : List ℕ → List ℕ) (es : List Entry) (e : Entry) where
  best_push : best_of rounded shares (es ++ e ∷ []) ≡ max (best_of rounded shares es) (share_of_all rounded (shares e.vector))
  best_push =
      ap (fold max 0) (map_push (λ e. share_of_all rounded (shares e.vector)) es e) ∙
      fold_push max 0 (map (λ e. share_of_all rounded (shares e.vector)) es) (share_of_all rounded (shares e.vector))

  all_of_push : all_of rounded shares (es ++ e ∷ []) ≡ rounded.times_down (all_of rounded shares es) (share_of_any rounded (shares e.vector))
  all_of_push =
      ap (fold rounded.times_down D) (map_push (λ e. share_of_any rounded (shares e.vector)) es e) ∙
      fold_push rounded.times_down D (map (λ e. share_of_any rounded (shares e.vector)) es) (share_of_any rounded (shares e.vector))

-- ## One record more

-- a record's ranks past the last component do not count
shares_of_entry : (reading : Reading) (rows : List Row) (r : Record) → shares_by reading rows (entry_of (length rows) r).vector ≡ shares_by reading rows r.vector
shares_of_entry reading rows r = shares_at_front (reading_of reading) (map rows_of rows) r.vector (length rows) (simp length-map (omega arith))

module _ (level : ℕ) (rows : List Row) (records : List Record) (i : ℕ) (d : Record) (within : i < length records) where
  -- the records of the level so far, and this one
  abbrev so_far : List Entry
  so_far = entries_at level rows (take i records)

  abbrev here : Entry
  here = entry_of (length rows) (get_or records i d)

  entries_next : entries_at level rows (take (i + 1) records) ≡ so_far ++ cond (covers level here) (here ∷ []) []
  entries_next =
      ap (of_level level) (map_more (entry_of (length rows)) records i d within) ∙
      filter-append (covers level) (map (entry_of (length rows)) (take i records)) (here ∷ [])

  pub entries_same : covers level here ≡ false → entries_at level rows (take (i + 1) records) ≡ so_far
  entries_same fails = entries_next ∙ ap (λ b. so_far ++ cond b (here ∷ []) []) fails ∙ append-nil so_far

  module _ (passes : covers level here ≡ true) where
    entries_more : entries_at level rows (take (i + 1) records) ≡ so_far ++ here ∷ []
    entries_more = entries_next ∙ ap (λ b. so_far ++ cond b (here ∷ []) []) passes

    pub count_more : (n : ℕ) → n ≡ length so_far → n + 1 ≡ length (entries_at level rows (take (i + 1) records))
    count_more n e = ap (λ m. m + 1) e ∙ sym (ap length entries_more ∙ length_push so_far here)

    module _ (reading : Reading) (a b : ℕ) where
      abbrev shares : List ℕ → List ℕ
      shares = shares_by reading rows

      pub best_more : a ≡ best_of rounded shares so_far → b ≡ share_of_all rounded (shares (get_or records i d).vector) →
          max a b ≡ best_of rounded shares (entries_at level rows (take (i + 1) records))
      best_more e f =
          ap₂ max e (f ∙ sym (ap (share_of_all rounded) (shares_of_entry reading rows (get_or records i d)))) ∙
          sym (ap (best_of rounded shares) entries_more ∙ best_push shares so_far here)

      pub all_more : a ≡ all_of rounded shares so_far → b ≡ share_of_any rounded (shares (get_or records i d).vector) →
          rounded.times_down a b ≡ all_of rounded shares (entries_at level rows (take (i + 1) records))
      all_more e f =
          ap₂ rounded.times_down e (f ∙ sym (ap (share_of_any rounded) (shares_of_entry reading rows (get_or records i d)))) ∙
          sym (ap (all_of rounded shares) entries_more ∙ all_of_push shares so_far here)

-- ## A share that is asked for, or not

pub asked : (by : Option Reading) (f g : Reading → ℕ) → ((r : Reading) → by ≡ Some r → f r ≡ g r) → option_map f by ≡ option_map g by
asked None f g h = refl
asked (Some r) f g h = ap Some (h r refl)
