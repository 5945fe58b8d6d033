use Rattle.cube_core.specs.Group.{values_of}
use Rattle.cube_laws.proofs.HolisticLaws.{IsPercentile-least, IsPercentile-greatest}
use Rattle.cube_laws.proofs.holistic.percentiles_reach_from_least_to_greatest.Goals as goal

pub returns : goal.returns
returns c = record {
  least = λ group m places a is. IsPercentile-least places (values_of m group) a is;
  greatest = λ group m places a is. IsPercentile-greatest places (values_of m group) a is;
}
