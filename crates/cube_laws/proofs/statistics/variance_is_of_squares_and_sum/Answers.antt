use Rattle.cube_laws.proofs.StatisticsLaws.{IsAnswer-VarPop_balance, IsAnswer-VarSamp_balance}
use Rattle.cube_laws.proofs.statistics.variance_is_of_squares_and_sum.Goals as goal

pub returns : goal.returns
returns c = record { population = IsAnswer-VarPop_balance; sample = IsAnswer-VarSamp_balance }
