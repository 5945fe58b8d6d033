use Rattle.std.proofs.Common.{arith, ap, refl, length, ◌≡◌}
use Rattle.cube_rings.proofs.WireLaws.{connects-more}
use Rattle.cube_rings.proofs.wiring.connect.Goals as goal

pub loop-gatherer-preserved : goal.loop-gatherer-preserved
loop-gatherer-preserved g c =
    let loop = c.loop-gatherer in
    rw c.in_ok-push.ensures.items
    (connects-more loop.gatherer-index c.args.gatherers.now loop.gatherers loop.outlets.items c.gatherer-item.result _
    c.in_ok-outlet.outlet loop.invariant (omega arith) c.in_ok-outlet.ensures)

pub loop-gatherer-init : goal.loop-gatherer-init
loop-gatherer-init g c = record {
  same_length = refl;
  width = ap length c.in_ok-outlets.ensures.items;
  each = λ j d o below. absurd (omega (arith, below));
  others = λ j d from. refl;
}

pub returns : goal.returns
returns g c =
    let all : c.loop-gatherer.gatherer-index ≡ length c.args.gatherers.now =
    omega (arith, c.loop-gatherer.invariant.same_length) in
    rw (← all) c.loop-gatherer.invariant
