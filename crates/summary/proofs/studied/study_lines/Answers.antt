-- A turn adds the lines of its level; the loop ends before its first turn or after the turn of the best level.
use Rattle.std.proofs.Common.{◌≡◌, ◌+◌, ◌-◌, ◌++◌, string_bytes, ap, ◌∙◌, arith}
use Rattle.promise.specs.Held.{figures_from, levels_to}
use Rattle.summary.specs.Lines.{all_lines}
use Rattle.summary.proofs.Levels.{lines_more}
use Rattle.summary.proofs.studied.study_lines.Goals as goal
use Rattle.summary.proofs.studied.study_lines.Goals.{else-loop-level-test, then-loop-level-test+in_ok-add_level+else-level-best}

pub loop-level-preserved : goal.loop-level-preserved
loop-level-preserved g c =
    let figures = figures_from c.args.study.now.ledger in
    let more = lines_more figures c.loop-level.level (string_bytes c.in_ok-out.out) (string_bytes c.loop-level.out) c.loop-level.invariant.0 c.loop-level.invariant.2 in
    (omega arith, omega arith, c.in_ok-add_level.ensures ∙ more)

pub returns : goal.returns
returns g c =
    let figures = figures_from c.args.study.now.ledger in
    let begun = string_bytes c.in_ok-out.out in
    let ends : string_bytes c.loop-level-test.out ≡ begun ++ all_lines figures (levels_to c.args.best) = elim c.loop-level-test.branch [
      | else-loop-level-test w ↦
          let last : c.loop-level.level - 1 ≡ c.args.best = omega (arith, w.loop-level-test.false) in
          ap string_bytes w.out-is ∙ c.loop-level.invariant.2 ∙ ap (λ j. begun ++ all_lines figures (levels_to j)) last
      | then-loop-level-test+in_ok-add_level+else-level-best w ↦
          let more = lines_more figures c.loop-level.level begun (string_bytes c.loop-level.out) c.loop-level.invariant.0 c.loop-level.invariant.2 in
          let last : c.loop-level.level + 1 - 1 ≡ c.args.best = omega arith in
          ap string_bytes w.out-is ∙ w.in_ok-add_level.ensures ∙ more ∙ ap (λ j. begun ++ all_lines figures (levels_to j)) last
    ] in
    ends ∙ ap (λ first. first ++ all_lines figures (levels_to c.args.best)) c.in_ok-out.ensures
