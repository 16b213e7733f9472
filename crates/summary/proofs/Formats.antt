-- What the formats write, piece by piece from the right, is the lines one after another. Assumes nothing.
use Rattle.std.proofs.Common.{◌≡◌, ℕ, List, ◌++◌, codes, decimal, append_assoc}
use Rattle.promise.specs.Use.{Figures}
use Rattle.summary.specs.Lines.{fault_lines, level_lines}

abbrev pub fault_format : ℕ → ℕ → List ℕ
fault_format number at = codes "fault=" ++ (decimal number ++ (codes "\nline=" ++ (decimal at ++ codes "\n")))

pub fault_format_lines : (number at : ℕ) → fault_format number at ≡ fault_lines number at
fault_format_lines number at = simp append_assoc

abbrev pub level_format : ℕ → Figures → List ℕ
level_format j a =
    codes "level=" ++ (decimal j ++ (codes "\nlow=" ++ (decimal a.low ++ (codes "\nhigh=" ++ (decimal a.high
    ++ (codes "\npaths=" ++ (decimal a.paths ++ (codes "\ncuts=" ++ (decimal a.cuts ++ codes "\n")))))))))

pub level_format_lines : (j : ℕ) (a : Figures) → level_format j a ≡ level_lines j a
level_format_lines j a = simp append_assoc
