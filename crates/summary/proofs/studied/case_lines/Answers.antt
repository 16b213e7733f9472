-- What the study of a case holds is what its use leaves.
use Rattle.std.proofs.Common.{◌≡◌, ◌++◌, string_bytes, arith}
use Rattle.std.proofs.lemmas.Result.{IfOk-weaker}
use Rattle.promise.specs.Held.{figures_from, levels_to}
use Rattle.study.specs.Model.{word_of}
use Rattle.casetext.specs.Contents.{content_of}
use Rattle.summary.specs.Lines.{search_line, all_lines}
use Rattle.summary.specs.Reports.{Reported}
use Rattle.summary.proofs.CaseUse.{best_held, reported}
use Rattle.summary.proofs.studied.case_lines.Goals as goal

pub study_lines-requires : goal.study_lines-requires
study_lines-requires c =
    let lived = c.in_ok-study.ensures in
    omega (arith, best_held (content_of c.args.case.now) lived.0 (word_of c.in_ok-study.word) c.in_ok-study.study.ledger lived.1)

pub returns : goal.returns
returns c =
    let case = content_of c.args.case.now in
    let word = word_of c.in_ok-study.word in
    let h = c.in_ok-study.study.ledger in
    let lived = c.in_ok-study.ensures in
    IfOk-weaker c.study_lines.result (λ s. string_bytes s ≡ search_line word ++ all_lines (figures_from h) (levels_to case.best)) (λ s. Reported case (string_bytes s))
    (λ s e. reported case lived.0 word h lived.1 c.requires (string_bytes s) e) c.study_lines.ensures
