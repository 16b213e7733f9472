-- The structure answers for each vector one rank higher, and the lowest goes on with it.
use Rattle.std.proofs.Common.{◌≡◌, ◌+◌, length, get_or, set, Some, sym, ap, ◌∙◌, ⊎_elim, inl, inr, arith}
use Rattle.std.specs.Iterator.Adapters.{enumerate_count}
use Rattle.structure.specs.Questions.{level_if_within}
use Rattle.structure.proofs.Below.{length_within}
use Rattle.study.proofs.Near.{turn, left_none, upper_answered, lowest_more, lowest_same, lowest_found}
use Rattle.study.proofs.neighbours.Vector.lowest_above.Goals as goal

pub returns-in_err-level : goal.returns-in_err-level
returns-in_err-level g c tops best here =
    let s = g.S.Structure.shape c.args.structure.now in
    let v = c.args.self.now.ranks.now in
    let p = c.in-Some.ensures.steps in
    let t = turn _ _ _ _ _ c.loop-i.invariant.left p.0.0 p.0.1 p.2 in
    let i = c.in-Some.i in
    let rank : get_or v i 0 ≡ c.in-Some.rank.now = rw p.1 t.rank in
    let top : get_or s.tops i 0 ≡ c.in-Some.top.now = rw (p.1, sym tops) t.top in
    let answered = upper_answered s v i here (omega (arith, c.if-rank-top.true)) in
    let none = c.in_err-level.was in
    cc

pub loop-i-preserved : goal.loop-i-preserved
loop-i-preserved g c =
    let s = g.S.Structure.shape c.args.structure.now in
    let v = c.args.self.now.ranks.now in
    let p = c.in-Some.ensures.steps in
    let t = turn _ _ _ _ _ c.loop-i.invariant.left p.0.0 p.0.1 p.2 in
    let i = enumerate_count c.loop-i.i-iterator in
    record {
      left = t.left;
      lowest = λ tops here.
          let top : get_or s.tops i 0 ≡ c.in-Some.top.now = rw tops at t.top in
          let same = lowest_same s v i here c.args.best c.loop-i.lowest (c.loop-i.invariant.lowest tops here) (omega (arith, t.rank, c.if-rank-top.false)) in
          cc (p.2);
    }

pub loop-i-preserved-then-rank-top : goal.loop-i-preserved-then-rank-top
loop-i-preserved-then-rank-top g c =
    let s = g.S.Structure.shape c.args.structure.now in
    let v = c.args.self.now.ranks.now in
    let p = c.in-Some.ensures.steps in
    let t = turn _ _ _ _ _ c.loop-i.invariant.left p.0.0 p.0.1 p.2 in
    let i = enumerate_count c.loop-i.i-iterator in
    record {
      left = t.left;
      lowest = λ tops here.
          let top : get_or s.tops i 0 ≡ c.in-Some.top.now = rw tops at t.top in
          let asked : c.level_with.result ≡ level_if_within s (set v i (get_or v i 0 + 1)) = rw (t.rank, sym p.1) c.level_with.ensures in
          let more = lowest_more s v i here c.args.best c.loop-i.lowest (c.loop-i.invariant.lowest tops here) c.in_ok-level.level c.level_with.result
          (omega (arith, t.rank, c.if-rank-top.true)) asked c.in_ok-level.was in
          cc (p.2, c.min-lowest.ensures);
    }

pub returns : goal.returns
returns g c tops best here =
    let s = g.S.Structure.shape c.args.structure.now in
    let long = length_within s.tops c.args.self.now.ranks.now here in
    let e = left_none _ _ _ _ _ c.loop-i.invariant.left (long ∙ ap length (sym tops)) (⊎_elim (λ (u, h). inl h.0) (λ (u, h). inr h.0) c.in-None.ensures.steps.0) in
    ap Some (lowest_found s c.args.self.now.ranks.now _ c.args.best c.loop-i.lowest (e ∙ ap length tops) long best (c.loop-i.invariant.lowest tops here))
