use Rattle.std.proofs.Common.{arith}
use Rattle.cube_lines.proofs.ScaleLaws.{powers-within, long_ten-small}
use Rattle.cube_lines.proofs.long_scale.common_with_ten.Goals as goal

pub overflow_mul-result : goal.overflow_mul-result
overflow_mul-result c =
    omega (
      arith,
      powers-within c.args.digits c.common_power.result c.common_power-2.result c.common_power.ensures.bound
          c.common_power-2.ensures.bound,
      long_ten-small c.args.digits c.requires,
    )

pub returns-clause-bound : goal.returns-clause-bound
returns-clause-bound c =
    powers-within c.args.digits c.common_power.result c.common_power-2.result c.common_power.ensures.bound
    c.common_power-2.ensures.bound
