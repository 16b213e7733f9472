-- The bytes of the format are those of the two lines.
use Rattle.std.proofs.Common.{◌≡◌, string_bytes, ap, ◌∙◌}
use Rattle.std.proofs.lemmas.Result.{IfOk-weaker}
use Rattle.structure.specs.Refusals.{number_of}
use Rattle.summary.specs.Lines.{fault_lines}
use Rattle.summary.proofs.Formats.{fault_format, fault_format_lines}
use Rattle.summary.proofs.lines.fault_lines.Goals as goal

pub returns : goal.returns
returns c =
    let number = c.number-number.result in
    let at = c.args.fault.line in
    IfOk-weaker c.format.result (λ s. string_bytes s ≡ fault_format number at) (λ s. string_bytes s ≡ fault_lines (number_of c.args.fault.refusal) at)
    (λ s e. e ∙ fault_format_lines number at ∙ ap (λ n. fault_lines n at) c.number-number.ensures) c.format.ensures.ok
