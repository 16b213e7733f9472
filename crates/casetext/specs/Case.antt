-- What a case text says: each line with its tests, and the whole. Assumes nothing.
use Rattle.std.specs.Prelude.{ℕ, ◌+◌, ◌*◌, List, [], ◌∷◌, length, codes, nat_lt}
use Rattle.structure.specs.Refusals.{first_refusal}
use Rattle.promise.specs.Figures.{Rows}
use Rattle.promise.specs.Calls.{row_tests}
use Rattle.fields.specs.Numbers.{numbers_in}
use Rattle.fields.specs.Readings.{Reading, read, at_line, and_then, line_reading}
pub use Rattle.frametext.specs.Frame.{components_line, levels_line, another_count, top_tests, tops_line, tags_line, table_line}

-- a case: the tops, the best level, the tags, a level for each vector, and the two rows of each component
pub record Content : Type 0 where
  pub tops : List ℕ
  pub best : ℕ
  pub tags : List ℕ
  pub levels : List ℕ
  pub rows : List Rows

-- ## Rows

abbrev pub row_line : ℕ → List ℕ → List ℕ → Reading (List ℕ × List ℕ)
row_line line key = line_reading line key numbers_in (λ _. [])

-- the rows of a component with this top, once both are read, tested on the line of the second
abbrev pub tested_rows : ℕ → ℕ → Rows → List ℕ → Reading (Rows × List ℕ)
tested_rows line top rows text = at_line line (first_refusal (row_tests top rows) (rows, text))

-- the two lines of a component with this top, from this line on
abbrev pub rows_lines : ℕ → ℕ → List ℕ → Reading (Rows × List ℕ)
rows_lines line top text =
    and_then (row_line line (codes "up=") text) (λ up.
    and_then (row_line (line + 1) (codes "down=") up.1) (λ down.
    tested_rows (line + 1) top (record { up = up.0; down = down.0 }) down.1))

-- the two lines of each component, from this line on
abbrev pub all_rows : ℕ → List ℕ → List ℕ → Reading (List Rows × List ℕ)
all_rows line [] text = read ([], text)
all_rows line (top ∷ tops) text =
    and_then (rows_lines line top text) (λ first.
    and_then (all_rows (line + 2) tops first.1) (λ more. read (first.0 ∷ more.0, more.1)))

-- ## The whole

-- at most 65,536 bytes
abbrev pub short : List ℕ → Reading (List ℕ)
short text = at_line 0 (first_refusal ((nat_lt 65536 (length text), 39) ∷ []) text)

-- nothing after the last line
abbrev pub ended : ℕ → List ℕ → Content → Reading Content
ended line text c = at_line line (first_refusal ((nat_lt 0 (length text), 42) ∷ []) c)

-- the case that a text holds, or its first fault
abbrev pub reading : List ℕ → Reading Content
reading bytes =
    and_then (short bytes) (λ text.
    and_then (components_line text) (λ n.
    and_then (levels_line n.1) (λ best.
    and_then (tops_line n.0 best.1) (λ tops.
    and_then (tags_line n.0 tops.1) (λ tags.
    and_then (table_line tops.0 best.0 tags.1) (λ levels.
    and_then (all_rows 6 tops.0 levels.1) (λ rows.
    ended (6 + 2 * n.0) rows.1
    (record { tops = tops.0; best = best.0; tags = tags.0; levels = levels.0; rows = rows.0 }))))))))
