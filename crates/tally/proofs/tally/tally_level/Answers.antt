-- The tally with one record more, and of all of them.
use Rattle.std.proofs.Common.{◌≡◌, List, [], length, get_or, sym, ap, ◌∙◌, arith, rules}
use Rattle.std.proofs.lemmas.List.{take_all}
use Rattle.std.specs.Option.{option_map}
use Rattle.share.specs.Shares.{rounded, share_of_any}
use Rattle.structure.specs.Minimal.{Entry}
use Rattle.promise.specs.Figures.{best_of, all_of}
use Rattle.tally.specs.Model.{shares_by, entries_at}
use Rattle.tally.specs.declared.record.Record.{Record}
use Rattle.tally.specs.declared.reading.Reading.{Reading}
use Rattle.tally.proofs.Tallies.{entries_same, count_more, best_more, all_more, asked}
use Rattle.tally.proofs.tally.tally_level.Goals as goal
use Rattle.tally.proofs.tally.tally_level.Goals.{then-covers, else-covers, in-Some, in_default}

-- what stands past the end of the records
no_record : Record
no_record = record { vector = []; first = 0; last = 0 }

pub loop-entry-preserved : goal.loop-entry-preserved
unfolding no_record
loop-entry-preserved c =
    let rows = c.args.rows.now in
    let rs = c.args.records.now in
    let i = c.loop-entry.entry-index in
    let j = c.args.level in
    let before = c.loop-entry.invariant in
    let within = c.loop-entry-test.true in
    elim c.if-covers.branch [
      | then-covers w ↦
          (let passes = sym (c.covers.ensures (length rows)) ∙ w.if-covers.true in record {
            best = w.best-is ∙ w.larger-best.ensures ∙
                best_more j rows rs i no_record within passes c.args.best_by c.loop-entry.best w.share_of_all.result before.best w.share_of_all.ensures;
            by_same = elim w.match-all_by.branch [ in-Some v ↦ cc | in_default v ↦ cc ];
            all = λ by asked_by. elim w.match-all_by.branch [
              | in-Some v ↦
                  (let same : v.in-Some.by ≡ by = cc in
                  w.all-is ∙ v.all-is ∙ v.times_down-all.ensures ∙
                  all_more j rows rs i no_record within passes by c.loop-entry.all v.share_of_any.result (before.all by asked_by)
                  (v.share_of_any.ensures ∙ ap (λ r. share_of_any rounded (shares_by r rows (get_or rs i no_record).vector)) same))
              | in_default v ↦ cc
            ];
            count = w.count-is ∙ count_more j rows rs i no_record within passes c.loop-entry.count before.count;
            few = omega (arith, w.count-is);
          })
      | else-covers w ↦
          (let same = entries_same j rows rs i no_record within (sym (c.covers.ensures (length rows)) ∙ w.if-covers.false) in record {
            best = w.best-is ∙ before.best ∙ sym (ap (best_of rounded (shares_by c.args.best_by rows)) same);
            by_same = cc;
            all = λ by asked_by. w.all-is ∙ before.all by asked_by ∙ sym (ap (all_of rounded (shares_by by rows)) same);
            count = w.count-is ∙ before.count ∙ sym (ap length same);
            few = omega (arith, w.count-is);
          })
    ]

pub returns-clause-all : goal.returns-clause-all
returns-clause-all c =
    let all-records = take_all c.loop-entry.entry-index c.args.records.now c.loop-entry-test.false in
    let rows = c.args.rows.now in
    let at : List Record → List Entry = entries_at c.args.level rows in
    let mapped : c.map.result ≡ option_map (λ (_ : Reading). c.loop-entry.all) c.args.all_by = rw (← c.loop-entry.invariant.by_same) (search rules) in
    mapped ∙ asked c.args.all_by (λ _. c.loop-entry.all) (λ r. all_of rounded (shares_by r rows) (at c.args.records.now))
    (λ r e. c.loop-entry.invariant.all r e ∙ ap (λ rs. all_of rounded (shares_by r rows) (at rs)) all-records)
