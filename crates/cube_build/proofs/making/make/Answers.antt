use Rattle.std.proofs.Common.{refl}
use Rattle.cube_build.proofs.making.make.Goals as goal

pub returns-in-Ok : goal.returns-in-Ok
returns-in-Ok g c = record { builder = rw c.of-builder.ensures c.in-Ok.ensures; inlets = refl }
