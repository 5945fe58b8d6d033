use Rattle.std.proofs.Common.{◌+◌, ◌*◌, ◌/◌, ◌^◌}
use Rattle.cube_core.proofs.WideLaws.{divided_by_digits, quotient_is, rest_is}
use Rattle.cube_core.proofs.wide.Wide.divided.Goals as goal

pub returns-clause-quotient : goal.returns-clause-quotient
returns-clause-quotient c =
    let high = c.self.inside.high in
    let divisor = c.args.divisor in
    let lower = c.divide_on-low.result.0 in
    let rest = c.divide_on-low.result.1 in
    quotient_is (high / divisor * 2 ^ 128 + lower) divisor rest c.args.self c.divide_on-low.ensures.below
    (divided_by_digits (2 ^ 128) high c.self.inside.low divisor lower rest c.args.self c.self.view_is
    c.divide_on-low.ensures.value)

pub returns-clause-rest : goal.returns-clause-rest
returns-clause-rest c =
    let high = c.self.inside.high in
    let divisor = c.args.divisor in
    let lower = c.divide_on-low.result.0 in
    let rest = c.divide_on-low.result.1 in
    rest_is (high / divisor * 2 ^ 128 + lower) divisor rest c.args.self c.divide_on-low.ensures.below
    (divided_by_digits (2 ^ 128) high c.self.inside.low divisor lower rest c.args.self c.self.view_is
    c.divide_on-low.ensures.value)
