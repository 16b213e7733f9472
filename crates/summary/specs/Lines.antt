-- The lines of a report. Assumes nothing.
use Rattle.std.specs.Prelude.{ℕ, List, [], ◌∷◌, ◌++◌, codes, decimal}
use Rattle.promise.specs.Use.{Word, Figures}
use Rattle.study.specs.Words.{word_text}

-- a line: the key, the number in decimal digits, and the byte that ends it
abbrev pub line : List ℕ → ℕ → List ℕ
line key n = key ++ (decimal n ++ (10 ∷ []))

-- what is wrong with a text, and where reading stopped
abbrev pub fault_lines : ℕ → ℕ → List ℕ
fault_lines number at = line (codes "fault=") number ++ line (codes "line=") at

-- how the search ended
abbrev pub search_line : Word → List ℕ
search_line word = codes "search=" ++ (word_text word ++ (10 ∷ []))

-- the figures of a level, with its path and cut entries counted
abbrev pub level_lines : ℕ → Figures → List ℕ
level_lines j a =
    line (codes "level=") j ++ line (codes "low=") a.low ++ line (codes "high=") a.high
    ++ line (codes "paths=") a.paths ++ line (codes "cuts=") a.cuts

-- the lines of levels, one after another
abbrev pub all_lines : (ℕ → Figures) → List ℕ → List ℕ
all_lines figures [] = []
all_lines figures (j ∷ js) = level_lines j (figures j) ++ all_lines figures js
