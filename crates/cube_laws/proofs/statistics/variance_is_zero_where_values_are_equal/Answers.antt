use Rattle.std.proofs.Common.{true, false}
use Rattle.cube_core.specs.Group.{values_of}
use Rattle.cube_laws.proofs.StatisticsLaws.{IsVariance-zero}
use Rattle.cube_laws.proofs.statistics.variance_is_zero_where_values_are_equal.Goals as goal

pub returns : goal.returns
returns c = record {
  population = λ group m p q is. IsVariance-zero (values_of m group) false p q is;
  sample = λ group m p q is. IsVariance-zero (values_of m group) true p q is;
}
