-- The product goes on with each top, is at most the count, and is the count at the end.
use Rattle.std.proofs.Common.{◌≡◌, ◌+◌, ◌-◌, ◌*◌, unwrap_or, ap, arith}
use Rattle.structure.proofs.Asked.{place_at}
use Rattle.structure.proofs.Count.{Product, product_next, product_least}
use Rattle.structure.proofs.interface.Structure.vectors.Goals as goal
use Rattle.structure.proofs.interface.Structure.vectors.Goals.{After-from}

-- one more top
more : (g : _) (c : After-from g) →
    Product (g.Self.Structure.shape c.args.self.now).tops c.loop-component.component (c.loop-component.count * (c.from.result + 1))
more g c =
    let tops = (g.Self.Structure.shape c.args.self.now).tops in
    product_next tops c.loop-component.component c.loop-component.count c.from.result (omega arith) (omega arith) c.loop-component.invariant
    (omega (arith, ap (λ o. unwrap_or o 0) c.top.ensures, place_at tops c.loop-component.component (omega arith) (omega arith)))

pub overflow_mul-count : goal.overflow_mul-count
overflow_mul-count g c =
    let s = g.Self.Structure.shape c.args.self.now in
    omega (arith, product_least s.tops c.loop-component.component _ (more g c), (g.met.Self.Structure.lawful c.args.self.now).countable)

pub loop-component-preserved : goal.loop-component-preserved
loop-component-preserved g c =
    let e : c.loop-component.component + 1 - 1 ≡ c.loop-component.component = omega arith in
    rw e (more g (goal.at.loop-component-preserved g c).After-from)
