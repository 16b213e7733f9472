-- The figures of a level from the tallies of the two lists that a ledger holds. Assumes nothing.
use Rattle.std.proofs.Common.{◌≡◌, ℕ, ◌≤◌, Bool, true, false, cond, List, map, length, Option, unwrap_or, sym, ap, ◌∙◌, ap₂, arith}
use lib.ListN.{length-map}
use Rattle.std.proofs.lemmas.Bool.Decides.{nat_tests}
use Rattle.std.proofs.lemmas.List.Sums.{length-filter, count_by-le-length}
use Rattle.std.specs.Bool.{then_some}
use Rattle.std.specs.Option.{option_map}
use Rattle.share.specs.Shares.{rounded}
use Rattle.structure.specs.Minimal.{Entry, covers}
use Rattle.structure.specs.Conditions.{outside}
use Rattle.structure.specs.Refusals.{refused, given}
use Rattle.promise.specs.Figures.{of_level, shares_at, better, best_of, all_of}
use Rattle.promise.specs.Use.{Figures}
use Rattle.tally.specs.Model.{rows_of, entry_of, reading_of, shares_by, entries_at}
use Rattle.tally.specs.declared.row.Row.{Row}
use Rattle.tally.specs.declared.record.Record.{Record}
use Rattle.tally.specs.declared.reading.Reading.{Reading}

-- the rows of n components, and one of the lists, as slices
module _ (n : ℕ) (all-rows : List Row) (level : ℕ) {rows : List Row} {slice records : List Record}
    (is-rows : rows ≡ all-rows) (long : length rows ≡ n) (is-records : slice ≡ records) where
  -- the entries of the level
  abbrev entries : List Entry
  entries = of_level level (map (entry_of n) records)

  pub held_entries : entries_at level rows slice ≡ entries
  held_entries = ap₂ (λ k rs. of_level level (map (entry_of k) rs)) long is-records

  held_by : (of : (List ℕ → List ℕ) → List Entry → ℕ) (reading : Reading) → of (shares_by reading rows) (entries_at level rows slice) ≡
      of (shares_at (reading_of reading) (map rows_of all-rows)) entries
  held_by of reading = ap₂ (λ rs es. of (shares_at (reading_of reading) (map rows_of rs)) es) is-rows held_entries

  pub held_best : (reading : Reading) (a : ℕ) → a ≡ best_of rounded (shares_by reading rows) (entries_at level rows slice) →
      a ≡ best_of rounded (shares_at (reading_of reading) (map rows_of all-rows)) entries
  held_best reading a e = e ∙ held_by (best_of rounded) reading

  pub held_all : (reading : Reading) → all_of rounded (shares_by reading rows) (entries_at level rows slice) ≡
      all_of rounded (shares_at (reading_of reading) (map rows_of all-rows)) entries
  held_all reading = held_by (all_of rounded) reading

-- a level has no more entries than the list has records
pub entries_few : (level : ℕ) (rows : List Row) (records : List Record) → length (entries_at level rows records) ≤ length records
entries_few level rows records =
    let all = map (entry_of (length rows)) records in
    omega (arith, length-filter (covers level) all, count_by-le-length (covers level) all, length-map records (entry_of (length rows)))

-- all vectors at once, asked for only where finished
pub better_where : (finished : Bool) (by : Reading) (f : Reading → ℕ) (a a' b' : ℕ) (asked : Option Reading) (together : Option ℕ) →
    asked ≡ then_some finished by → together ≡ option_map f asked → a ≡ a' → f by ≡ b' →
    unwrap_or (option_map (rounded.larger a) together) a ≡ better rounded finished a' b'
better_where true by f a a' b' asked together e g h k =
    ap (λ o. unwrap_or (option_map (rounded.larger a) o) a) (g ∙ ap (option_map f) e) ∙ ap₂ rounded.larger h k
better_where false by f a a' b' asked together e g h k = ap (λ o. unwrap_or (option_map (rounded.larger a) o) a) (g ∙ ap (option_map f) e) ∙ h

-- figures that agree in each part are given for a level that there is
pub given_figures : (level best : ℕ) (a b : Figures) → 1 ≤ level → level ≤ best → a.low ≡ b.low → a.high ≡ b.high → a.paths ≡ b.paths → a.cuts ≡ b.cuts →
    given a ≡ cond (outside level best) (refused 30) (given b)
given_figures level best a b h l e f g k =
    let same : a ≡ b = λ i. record { low = e i; high = f i; paths = g i; cuts = k i } in
    let inside : outside level best ≡ false = grind (arith, nat_tests) in
    ap given same ∙ sym (ap (λ o. cond o (refused 30) (given b)) inside)
