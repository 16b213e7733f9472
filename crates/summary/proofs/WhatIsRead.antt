-- A case that is read passes the tests of its table and of its rows. Assumes nothing.
use Rattle.std.proofs.Common.{◌≡◌, ℕ, zero, suc, ◌+◌, ◌-◌, ◌*◌, ◌<◌, Bool, ltb, List, [], ◌∷◌, length, get_or, codes, Option, sym, refl, ap, ◌∙◌, subst, arith}
use Rattle.structure.specs.Refusals.{Answer, refused, given, accepted, first_refusal}
use Rattle.structure.specs.Conditions.{outside}
use Rattle.table.specs.Table.{table_tests, level_tests}
use Rattle.promise.specs.Figures.{Rows}
use Rattle.promise.specs.Calls.{row_tests, enter_tests}
use Rattle.casetext.specs.Numbers.{number_in, numbers_in, levels_in}
use Rattle.casetext.specs.Lines.{line_with}
use Rattle.casetext.specs.Readings.{Reading, fault, read, at_line, and_then, or_refuse, line_reading}
use Rattle.casetext.specs.Case.{Content, components_line, levels_line, another_count, top_tests, tops_line, tags_line, table_line, row_line, rows_lines, all_rows, short, reading}
use Rattle.summary.specs.Uses.{Enterable, Sound}
use Rattle.summary.proofs.Passing.{Passed, given_passed, passed_given, same_count, count_same, inside}

-- ## Readings that came to something

-- so did the first of two, and the second from there
read_first : {A B : Type 0} {go : A → Reading B} {b : B} (g : Reading A) → and_then g go ≡ read b → (a : A) × (g ≡ read a) × (go a ≡ read b)
read_first (fault number line) e = let z : ◌≡◌ {A = ℕ} 0 1 = cc in absurd (omega arith)
read_first (read a) e = (a, refl, e)

answer_read : {A : Type 0} (line : ℕ) (a : Answer A) (b : A) → at_line line a ≡ read b → a ≡ given b
answer_read line (refused number) b e = let z : ◌≡◌ {A = ℕ} 0 1 = cc in absurd (omega arith)
answer_read line (given a) b e = cc

-- a line that is read has passed its tests
line_passed : {A : Type 0} (line : ℕ) (key : List ℕ) (parse : List ℕ → Option A) (tests : A → List (Bool × ℕ)) (text : List ℕ) (b : A × List ℕ) → line_reading line key parse tests text ≡ read b → Passed (tests b.0)
line_passed line key parse tests text b e =
    let cut = read_first (at_line line (or_refuse 40 (line_with key text))) e in
    let value = read_first (at_line line (or_refuse 41 (parse cut.0.0))) cut.2 in
    let told = given_passed (tests value.0) (value.0, cut.0.1) b (answer_read line _ b value.2) in
    subst (λ p. Passed (tests p.0)) told.1 told.0

-- ## Rows

-- there are rows for every top, and each passes its tests
abbrev RowsPass : List ℕ → List Rows → Type 0
RowsPass tops rows = (length rows ≡ length tops) × ((k : ℕ) (d : Rows) → k < length rows → Passed (row_tests (get_or tops k 0) (get_or rows k d)))

one_more : (top : ℕ) (tops : List ℕ) (r : Rows) (rows : List Rows) → Passed (row_tests top r) → RowsPass tops rows → RowsPass (top ∷ tops) (r ∷ rows)
one_more top tops r rows here later = (ap suc later.0, each)
  where
    each : (k : ℕ) (d : Rows) → k < length (r ∷ rows) → Passed (row_tests (get_or (top ∷ tops) k 0) (get_or (r ∷ rows) k d))
    each zero d h = here
    each (suc k) d h = later.1 k d (omega arith)

two_lines_passed : (line top : ℕ) (text : List ℕ) (p : Rows × List ℕ) → rows_lines line top text ≡ read p → Passed (row_tests top p.0)
two_lines_passed line top text p e =
    let up = read_first (row_line line (codes "up=") text) e in
    let down = read_first (row_line (line + 1) (codes "down=") up.0.1) up.2 in
    let rows : Rows = record { up = up.0.0; down = down.0.0 } in
    let told = given_passed (row_tests top rows) (rows, down.0.1) p (answer_read (line + 1) _ p down.2) in
    subst (λ q. Passed (row_tests top q.0)) told.1 told.0

all_passed : (line : ℕ) (tops text : List ℕ) (p : List Rows × List ℕ) → all_rows line tops text ≡ read p → RowsPass tops p.0
all_passed line [] text p e =
    let same : ◌≡◌ {A = List Rows × List ℕ} ([], text) p = cc in
    subst (λ q. RowsPass [] q.0) same (refl, λ k d h. absurd (omega arith))
all_passed line (top ∷ tops) text p e =
    let first = read_first (rows_lines line top text) e in
    let more = read_first (all_rows (line + 2) tops first.0.1) first.2 in
    let same : ◌≡◌ {A = List Rows × List ℕ} (first.0.0 ∷ more.0.0, more.0.1) p = cc more.2 in
    let here = two_lines_passed line top text first.0 first.1 in
    subst (λ q. RowsPass (top ∷ tops) q.0) same (one_more top tops first.0.0 more.0.0 here (all_passed (line + 2) tops first.0.1 more.0 more.1))

-- rows that pass their tests can be entered
enterable : (tops : List ℕ) (rows : List Rows) → RowsPass tops rows → Enterable tops rows
enterable tops rows pass k d h =
    let there : k < length tops = omega (arith, pass.0) in
    let place : k ≡ k + 1 - 1 = omega arith in
    let tests = subst (λ i. Passed (row_tests (get_or tops i 0) (get_or rows k d))) place (pass.1 k d h) in
    passed_given (enter_tests tops (k + 1) (get_or rows k d)) tt (inside k (length tops) there, tests)

-- ## The lines of the table

table_passed : (n best : ℕ) (tops tags levels : List ℕ) → Passed ((outside n 12, 10) ∷ []) → Passed ((outside best 7, 13) ∷ []) → Passed (top_tests n tops) → Passed ((another_count n tags, 11) ∷ []) → Passed (level_tests tops best levels) → Passed (table_tests tops best tags levels)
table_passed n best tops tags levels few low tops-pass tags-pass levels-pass =
    let as_many = same_count (length tops) n tops-pass.0 in
    let tagged = same_count (length tags) n tags-pass.0 in
    (ap (λ m. outside m 12) as_many ∙ few.0, (count_same (length tags) (length tops) (tagged ∙ sym as_many), (tops-pass.1.0, (low.0, levels-pass))))

module _ (t₁ t₂ t₃ t₄ t₅ : List ℕ) (n best : ℕ × List ℕ) (tops tags levels : List ℕ × List ℕ) where
  lines_passed : components_line t₁ ≡ read n → levels_line t₂ ≡ read best → tops_line n.0 t₃ ≡ read tops → tags_line n.0 t₄ ≡ read tags → table_line tops.0 best.0 t₅ ≡ read levels → Passed (table_tests tops.0 best.0 tags.0 levels.0)
  lines_passed e₁ e₂ e₃ e₄ e₅ = table_passed n.0 best.0 tops.0 tags.0 levels.0
      (line_passed 1 (codes "components=") number_in (λ m. (outside m 12, 10) ∷ []) t₁ n e₁)
      (line_passed 2 (codes "levels=") number_in (λ m. (outside m 7, 13) ∷ []) t₂ best e₂)
      (line_passed 3 (codes "tops=") numbers_in (top_tests n.0) t₃ tops e₃)
      (line_passed 4 (codes "tags=") numbers_in (λ xs. (another_count n.0 xs, 11) ∷ []) t₄ tags e₄)
      (line_passed 5 (codes "table=") levels_in (level_tests tops.0 best.0) t₅ levels e₅)

-- ## The whole

pub sound_read : (bytes : List ℕ) (c : Content) → reading bytes ≡ read c → Sound c
sound_read bytes c e =
    let text = read_first (short bytes) e in
    let n = read_first (components_line text.0) text.2 in
    let best = read_first (levels_line n.0.1) n.2 in
    let tops = read_first (tops_line n.0.0 best.0.1) best.2 in
    let tags = read_first (tags_line n.0.0 tops.0.1) tops.2 in
    let levels = read_first (table_line tops.0.0 best.0.0 tags.0.1) tags.2 in
    let rows = read_first (all_rows 6 tops.0.0 levels.0.1) levels.2 in
    let lines = lines_passed text.0 n.0.1 best.0.1 tops.0.1 tags.0.1 n.0 best.0 tops.0 tags.0 levels.0 n.1 best.1 tops.1 tags.1 levels.1 in
    let row-lines = all_passed 6 tops.0.0 levels.0.1 rows.0 rows.1 in
    let whole : Content = record { tops = tops.0.0; best = best.0.0; tags = tags.0.0; levels = levels.0.0; rows = rows.0.0 } in
    let same : whole ≡ c = (given_passed ((ltb 0 (length rows.0.1), 42) ∷ []) whole c (answer_read (6 + 2 * n.0.0) (first_refusal ((ltb 0 (length rows.0.1), 42) ∷ []) whole) c rows.2)).1 in
    let table = ap accepted (passed_given (table_tests tops.0.0 best.0.0 tags.0.0 levels.0.0) tt lines) in
    subst Sound same (record { table = table; all = row-lines.0; rows = enterable tops.0.0 rows.0.0 row-lines })
