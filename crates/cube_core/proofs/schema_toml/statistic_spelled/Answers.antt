use Rattle.std.proofs.Common.{arith}
use Rattle.cube_core.proofs.SchemaSpellingLaws.{statistic_spelled_measure_in}
use Rattle.cube_core.proofs.schema_toml.statistic_spelled.Goals as goal

pub returns-in-Some : goal.returns-in-Some
returns-in-Some c = grind (arith, statistic_spelled_measure_in)

pub returns-in-Some-measure_spelled : goal.returns-in-Some-measure_spelled
returns-in-Some-measure_spelled c = grind (arith, statistic_spelled_measure_in)

pub returns-in-Some-measure_spelled-2 : goal.returns-in-Some-measure_spelled-2
returns-in-Some-measure_spelled-2 c = grind (arith, statistic_spelled_measure_in)

pub returns-in-Some-measure_spelled-3 : goal.returns-in-Some-measure_spelled-3
returns-in-Some-measure_spelled-3 c = grind (arith, statistic_spelled_measure_in)

pub returns : goal.returns
returns c = grind (arith, statistic_spelled_measure_in)
