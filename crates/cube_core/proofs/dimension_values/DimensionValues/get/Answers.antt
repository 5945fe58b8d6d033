use Rattle.std.proofs.Common.{arith}
use Rattle.std.proofs.lemmas.Grind.{common_steps}
use Rattle.cube_core.proofs.dimension_values.DimensionValues.get.Goals as goal

pub returns-in_default : goal.returns-in_default
returns-in_default c = grind (arith, common_steps)

pub returns-in-Some-Text : goal.returns-in-Some-Text
returns-in-Some-Text c = grind (arith, common_steps)

pub returns-in_default-get : goal.returns-in_default-get
returns-in_default-get c = grind (arith, common_steps)

pub returns-in-Some-Text-get : goal.returns-in-Some-Text-get
returns-in-Some-Text-get c = grind (arith, common_steps)
