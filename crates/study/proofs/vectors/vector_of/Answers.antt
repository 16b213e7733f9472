-- Each turn adds one rank, and after all it is the vector of the number.
use Rattle.std.proofs.Common.{◌≡◌, length, ◌∙◌, arith}
use Rattle.std.specs.Iterator.Adapters.{rev_source, enumerate_source}
use Rattle.std.specs.Slice.Iter.{iter_rest}
use Rattle.study.proofs.Digits.{last_left, ranks_more, ranks_all}
use Rattle.study.proofs.vectors.vector_of.Goals as goal

pub loop-i-preserved : goal.loop-i-preserved
loop-i-preserved c =
    let p = c.in-Some.ensures.steps in
    let so_far = c.loop-i.invariant in
    let before = iter_rest (enumerate_source (rev_source c.next.new.self)) in
    let last = last_left c.args.tops.now (iter_rest (enumerate_source (rev_source c.loop-i.i-iterator))) before c.in-Some.top.now so_far.tops p.1.0 in
    let place : c.in-Some.i ≡ length before = omega (arith, p.1.1, so_far.none) in record {
      none = p.0 ∙ so_far.none;
      tops = last.front;
      ranks = rw (place, last.is) (ranks_more c.args.tops.now c.loop-i.vector c.args.number (length before) c.loop-i.left last.inside (rw last.long at so_far.ranks));
    }

pub returns : goal.returns
returns c =
    let none : length (iter_rest (enumerate_source (rev_source c.loop-i.i-iterator))) ≡ 0 = c.in-None.ensures.steps.1.0 in
    ranks_all _ _ _ _ (rw none at c.loop-i.invariant.ranks)
