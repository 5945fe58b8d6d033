use Rattle.std.proofs.Common.{refl}
use Rattle.cube_rings.proofs.wiring.link_to.Goals as goal

pub returns : goal.returns
returns g c = record {
  inlet = c.in_ok-outlet.inlet;
  inlets = c.in_ok-push.ensures.items;
  link = c.in_ok-outlet.ensures.link;
  unreceived = c.in_ok-outlet.ensures.received;
  unsent = c.in_ok-outlet.ensures.sent;
  builder = refl;
}
