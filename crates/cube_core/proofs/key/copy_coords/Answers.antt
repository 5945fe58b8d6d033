use Rattle.std.proofs.Common.{arith}
use Rattle.std.proofs.lemmas.Grind.{common_steps}
use Rattle.cube_core.proofs.key.copy_coords.Goals as goal

pub loop-coord-preserved : goal.loop-coord-preserved
loop-coord-preserved c = grind (arith, common_steps)

pub returns : goal.returns
returns c = grind (arith, common_steps)
