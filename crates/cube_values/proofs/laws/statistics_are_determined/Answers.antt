use Rattle.cube_values.proofs.StatisticsLaws.{IsAtPlace-determined, IsAtPlace-HasLeast, HasLeast-IsAtPlace}
use Rattle.cube_values.proofs.StatisticsLaws.{IsAtPlace-HasGreatest, HasGreatest-IsAtPlace, AreInOrder-determined}
use Rattle.cube_values.proofs.StatisticsLaws.{HasDifferent-length}
use Rattle.cube_values.proofs.laws.statistics_are_determined.Goals as goal

pub returns : goal.returns
returns c = record {
  place = IsAtPlace-determined;
  first = λ bag v. (HasLeast-IsAtPlace bag v, IsAtPlace-HasLeast bag v);
  last = λ bag v. (HasGreatest-IsAtPlace bag v, IsAtPlace-HasGreatest bag v);
  in_order = AreInOrder-determined;
  different = HasDifferent-length;
}
