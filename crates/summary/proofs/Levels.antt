-- One more level's lines. Assumes nothing.
use Rattle.std.proofs.Common.{◌≡◌, ℕ, suc, ◌+◌, ◌-◌, ◌≤◌, List, [], ◌∷◌, ◌++◌, sym, ap, ◌∙◌, append_assoc, append-nil, arith}
use Rattle.promise.specs.Use.{Figures}
use Rattle.promise.specs.Held.{levels_to}
use Rattle.summary.specs.Lines.{level_lines, all_lines}

all_lines_push : (f : ℕ → Figures) (js : List ℕ) (j : ℕ) → all_lines f (js ++ (j ∷ [])) ≡ all_lines f js ++ level_lines j (f j)
all_lines_push f [] j = append-nil (level_lines j (f j))
all_lines_push f (i ∷ js) j =
    ap (λ rest. level_lines i (f i) ++ rest) (all_lines_push f js j) ∙ sym (append_assoc (level_lines i (f i)) (all_lines f js) (level_lines j (f j)))

-- the levels below the next one end with this one
levels_more : (j : ℕ) → 1 ≤ j → levels_to (j + 1 - 1) ≡ levels_to (j - 1) ++ (j ∷ [])
levels_more j some =
    let here : j + 1 - 1 ≡ suc (j - 1) = omega arith in
    let this : suc (j - 1) ≡ j = omega arith in
    ap levels_to here ∙ ap (λ k. levels_to (j - 1) ++ (k ∷ [])) this

pub lines_more : (f : ℕ → Figures) (j : ℕ) (begun out : List ℕ) → 1 ≤ j → out ≡ begun ++ all_lines f (levels_to (j - 1)) → out ++ level_lines j (f j) ≡ begun ++ all_lines f (levels_to (j + 1 - 1))
lines_more f j begun out some so_far =
    let before = all_lines f (levels_to (j - 1)) in
    ap (λ xs. xs ++ level_lines j (f j)) so_far ∙ append_assoc begun before (level_lines j (f j))
    ∙ ap (λ rest. begun ++ rest) (sym (all_lines_push f (levels_to (j - 1)) j) ∙ ap (all_lines f) (sym (levels_more j some)))
