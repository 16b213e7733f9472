use Rattle.std.proofs.Common.{Some, None}
use Rattle.std.proofs.lemmas.Slice.Eq.{strip_prefix_is}
use Rattle.fields.proofs.Fronts.{after_is, line_is}
use Rattle.fields.proofs.line.line.Goals as goal
use Rattle.std.proofs.lemmas.Bool.Decides.{Decides-eqb}

pub returns-in_err-value : goal.returns-in_err-value
returns-in_err-value c =
    let key = c.args.key.now in
    let line = c.in_ok-line.line.now in
    rw c.from_residual-in_err-value.ensures
    (line_is key c.args.text.now (line, c.in_ok-line.rest.now) None c.in_ok-line.ensures.halves
    (after_is key line None (strip_prefix_is Decides-eqb line key None c.in_err-value.ensures.cases)))

pub returns : goal.returns
returns c =
    let key = c.args.key.now in
    let line = c.in_ok-line.line.now in
    let value = c.in_ok-value.value in
    line_is key c.args.text.now (line, c.in_ok-line.rest.now) (Some value.now) c.in_ok-line.ensures.halves
    (after_is key line (Some value) (strip_prefix_is Decides-eqb line key (Some value) c.in_ok-value.ensures.cases))
