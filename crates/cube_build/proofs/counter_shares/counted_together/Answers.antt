use Rattle.std.proofs.Common.{refl}
use Rattle.cube_build.proofs.counter_shares.counted_together.Goals as goal

pub returns : goal.returns
returns g c = record { counter = c.in_ok-builder.ensures; inlets = refl }
