use Rattle.std.proofs.Common.{◌≤◌, ◌*◌, arith}
use Rattle.std.proofs.Math.Nat.{one-le-pow}
use Rattle.cube_lines.proofs.ScaleLaws.{power-more, power-small}
use Rattle.cube_lines.proofs.long_scale.+common_power.Goals as goal

pub returns-then-digits-eq0-clause-bound : goal.returns-then-digits-eq0-clause-bound
returns-then-digits-eq0-clause-bound t c = one-le-pow c.args.digits c.args.base c.requires.some

pub overflow_mul-result : goal.overflow_mul-result
overflow_mul-result t c =
    let some : 1 ≤ c.args.digits = omega (arith, c.if-digits-eq0.false) in
    let within = power-more c.args.base c.args.digits c.common_power.result some c.common_power.ensures.bound in
    omega (
      arith,
      power-small c.args.base c.args.digits (c.args.base * c.common_power.result)
          c.requires.some c.requires.small c.requires.few within,
    )

pub returns-clause-bound : goal.returns-clause-bound
returns-clause-bound t c =
    let some : 1 ≤ c.args.digits = omega (arith, c.if-digits-eq0.false) in
    power-more c.args.base c.args.digits c.common_power.result some c.common_power.ensures.bound
