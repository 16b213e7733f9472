-- One more level's figures each turn, and in the end all.
use Rattle.std.proofs.Common.{◌≡◌, ◌+◌, ◌-◌, ◌<◌, ◌≤◌, min, take, ap, ◌∙◌, subst, arith, length-set}
use Rattle.share.specs.Shares.{D}
use Rattle.promise.specs.Held.{figures_from}
use Rattle.study.proofs.Carrying.{figures_more, figures_none}
use Rattle.study.proofs.ledger.Ledger.carried_rows.Goals as goal
use Rattle.study.proofs.ledger.Ledger.carried_rows.Goals.{else-loop-level-test, then-loop-level-test+else-level-level-end}

pub loop-level-preserved : goal.loop-level-preserved
loop-level-preserved c =
    let h = c.args.self.now in
    let best = ap (λ h. h.best) c.self.view_is in
    let level = c.loop-level.level in
    let inv = c.loop-level.invariant in
    let place = c.from-place.result in
    record {
      up_long = length-set c.loop-level.up place c.enclosed.result.0 ∙ inv.up_long;
      down_long = length-set c.loop-level.down place c.enclosed.result.1 ∙ inv.down_long;
      up = figures_more (λ j. (figures_from h j).low) c.loop-level.up place c.enclosed.result.0 level (level + 1 - 1) (level + 1 - 1)
          (omega (arith, c.requires, best)) (omega arith) c.enclosed.ensures.up (omega arith) (omega arith) inv.up;
      down = figures_more (λ j. D - (figures_from h j).high) c.loop-level.down place c.enclosed.result.1 level (level + 1 - 1) (level + 1 - 1)
          (omega (arith, c.requires, best)) (omega arith) c.enclosed.ensures.down (omega arith) (omega arith) inv.down;
    }

pub returns : goal.returns
returns c =
    let h = c.args.self.now in
    let best : c.self.inside.best ≡ h.best = ap (λ h. h.best) c.self.view_is in
    let level = c.loop-level.level in
    let inv = c.loop-level.invariant in
    let n = min c.self.inside.best 7 in
    let ranks : n ≡ h.best = omega (arith, c.requires, best) in
    elim c.loop-level-test.branch [
      | else-loop-level-test w ↦
          let past : h.best < level = omega (arith, best) in
          let within : 1 ≤ h.best → level ≤ h.best = subst (λ m. 1 ≤ m → level ≤ m) best c.loop-level.auto.level-end in
          c.of.ensures ∙ (λ k. record {
            up = (ap (take n) w.up-is ∙ figures_none (λ j. (figures_from h j).low) c.loop-level.up level n h.best ranks past within) k;
            down = (ap (take n) w.down-is ∙ figures_none (λ j. D - (figures_from h j).high) c.loop-level.down level n h.best ranks past within) k;
          })
      | then-loop-level-test+else-level-level-end w ↦
          let here : n ≡ level = omega (arith, c.requires, best) in
          let last : h.best ≡ level = omega (arith, best) in
          c.of.ensures ∙ (λ k. record {
            up = (ap (take n) w.up-is ∙
                figures_more (λ j. (figures_from h j).low) c.loop-level.up w.from-place.result w.enclosed.result.0 level n h.best
                (omega (arith, c.requires, best)) (omega arith) w.enclosed.ensures.up here last inv.up) k;
            down = (ap (take n) w.down-is ∙
                figures_more (λ j. D - (figures_from h j).high) c.loop-level.down w.from-place.result w.enclosed.result.1 level n h.best
                (omega (arith, c.requires, best)) (omega arith) w.enclosed.ensures.down here last inv.down) k;
          })
    ]
