use Rattle.std.proofs.Common.{rules, FitsSigned, arith}
use Rattle.std.specs.Int.{w128}
use Rattle.std.proofs.lemmas.Int.{ints}
use Rattle.cube_merge.proofs.TotalLaws.{high_of, low_of}
use Rattle.cube_merge.proofs.total.Total.get.Goals as goal

pub returns-else-self-clause-none : goal.returns-else-self-clause-none
returns-else-self-clause-none c sum is fits =
    let fits_low : FitsSigned w128 c.args.self.now.low = search rules in
    omega (
      arith,
      ints,
      is,
      low_of sum fits,
      high_of sum fits,
      low_of c.args.self.now.low fits_low,
      high_of c.args.self.now.low fits_low,
      c.if-self.false,
    )
