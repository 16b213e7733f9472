-- The bytes of the format are those of the five lines.
use Rattle.std.proofs.Common.{◌≡◌, ℕ, string_bytes, ◌∙◌, ap₂}
use Rattle.std.proofs.lemmas.Result.{IfOk-weaker}
use Rattle.promise.specs.Use.{Figures}
use Rattle.study.specs.Model.{figures_in}
use Rattle.summary.specs.Lines.{level_lines}
use Rattle.summary.proofs.Formats.{level_format, level_format_lines}
use Rattle.summary.proofs.lines.level_lines.Goals as goal

pub returns : goal.returns
returns c =
    let j = c.args.level in
    let of : ℕ → ℕ → Figures = λ low high. record { low = low; high = high; paths = c.args.figures.2; cuts = c.args.figures.3 } in
    let written = of c.billionths-low.result c.billionths-high.result in
    IfOk-weaker c.format.result (λ s. string_bytes s ≡ level_format j written) (λ s. string_bytes s ≡ level_lines j (figures_in c.args.figures))
    (λ s e. e ∙ level_format_lines j written ∙ ap₂ (λ low high. level_lines j (of low high)) c.billionths-low.ensures.number c.billionths-high.ensures.number) c.format.ensures.ok
