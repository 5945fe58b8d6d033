use Rattle.std.proofs.Common.{arith}
use Rattle.std.proofs.lemmas.Grind.{common_steps}
use Rattle.cube_core.proofs.dimension_values.DimensionValues.of_texts.Goals as goal

pub loop-value-preserved : goal.loop-value-preserved
loop-value-preserved c = grind (arith, common_steps)

pub returns : goal.returns
returns c = grind (arith, common_steps)
