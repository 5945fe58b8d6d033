use Rattle.std.proofs.Common.{arith}
use Rattle.std.proofs.lemmas.Int.{ints, to_z-of_z}
use Rattle.cube_merge.proofs.total.Total.add.Goals as goal

pub returns-in-None-clause-sum : goal.returns-in-None-clause-sum
returns-in-None-clause-sum c sum is = grind (arith, ints, to_z-of_z)

pub returns-in-None-2-clause-sum : goal.returns-in-None-2-clause-sum
returns-in-None-2-clause-sum c sum is = grind (arith, ints, to_z-of_z)
