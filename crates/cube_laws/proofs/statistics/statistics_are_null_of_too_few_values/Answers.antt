use Rattle.cube_core.specs.Group.{values_of}
use Rattle.cube_laws.proofs.StatisticsLaws.{IsSumOfSquares-Null, IsVarianceAnswer-Null_population}
use Rattle.cube_laws.proofs.StatisticsLaws.{IsVarianceAnswer-Null_sample}
use Rattle.cube_laws.proofs.statistics.statistics_are_null_of_too_few_values.Goals as goal

pub returns : goal.returns
returns c = record {
  squares = λ group m a is. IsSumOfSquares-Null (values_of m group) a is;
  population = λ group m a is. IsVarianceAnswer-Null_population (values_of m group) a is;
  sample = λ group m a is. IsVarianceAnswer-Null_sample (values_of m group) a is;
}
