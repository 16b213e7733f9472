-- The figures are those of what the ledger holds.
use Rattle.std.proofs.Common.{length, vec_items, vec_len, ap, ◌∙◌, arith}
use Rattle.share.specs.Shares.{rounded}
use Rattle.study.specs.Model.{figures_in}
use Rattle.tally.specs.declared.reading.Reading.TheVariants.{UpAt, UpOver, DownAt, DownOver}
use Rattle.study.proofs.FromTallies.{held_entries, held_best, held_all, entries_few, better_where, given_figures}
use Rattle.study.proofs.ledger.Ledger.figures.Goals as goal

pub returns-clause-answers : goal.returns-clause-answers
returns-clause-answers c =
    let t = c.self.inside in
    let level = c.args.level in
    let n = vec_len t.tops in
    let all-rows = vec_items t.rows in
    let paths = c.tally_level-paths in
    let cuts = c.tally_level-cuts in
    let rows = c.deref.ensures.value in
    let long = c.deref.ensures.len ∙ c.self.invariant.sized in
    let again = c.deref-3.ensures.value in
    let again-long = c.deref-3.ensures.len ∙ c.self.invariant.sized in
    let path_list = c.deref-2.ensures.value in
    let Cut-list = c.deref-4.ensures.value in
    let low = c.better-low.ensures ∙ better_where t.finished UpOver _ _ _ _ _ _ c.then_some-2.ensures cuts.ensures.all
    (held_best n all-rows level rows long path_list UpAt _ paths.ensures.best)
    (held_all n all-rows level again again-long Cut-list UpOver) in
    let high = c.rest-high.ensures ∙ ap rounded.rest (c.better.ensures ∙ better_where t.finished DownAt _ _ _ _ _ _ c.then_some.ensures paths.ensures.all
    (held_best n all-rows level again again-long Cut-list DownOver _ cuts.ensures.best)
    (held_all n all-rows level rows long path_list DownAt)) in
    let path-count = paths.ensures.count ∙ ap length (held_entries n all-rows level rows long path_list) in
    let cut-count = cuts.ensures.count ∙ ap length (held_entries n all-rows level again again-long Cut-list) in
    rw (← c.self.view_is) (given_figures level t.best (figures_in (c.better-low.result, c.rest-high.result, paths.result.count, cuts.result.count)) _
    (omega arith) (omega arith) low high path-count cut-count)

-- neither list holds more than 256
pub returns-clause-counted : goal.returns-clause-counted
returns-clause-counted c =
    let few = c.self.invariant.listed in (
      omega (arith, c.tally_level-paths.ensures.count, entries_few c.args.level c.deref.result.now c.deref-2.result.now, ap length c.deref-2.ensures.value, few.0),
      omega (arith, c.tally_level-cuts.ensures.count, entries_few c.args.level c.deref-3.result.now c.deref-4.result.now, ap length c.deref-4.ensures.value, few.1),
    )
