use Rattle.std.proofs.Common.{◌≡◌, ◌^◌, arith, rules}
use Rattle.std.proofs.Math.Nat.{one-le-pow}
use Rattle.cube_lines.proofs.ScaleLaws.{long_ten-small}
use Rattle.cube_lines.proofs.long_scale.long_power_of_ten.Goals as goal

pub pow-requires : goal.pow-requires
pow-requires c =
    let same : c.from.result ≡ c.args.digits = search rules in
    rw same (omega (arith, long_ten-small c.args.digits c.requires))

pub returns-clause-positive : goal.returns-clause-positive
returns-clause-positive c =
    let is : c.pow.result ≡ 10 ^ c.args.digits = search rules in
    rw is (one-le-pow c.args.digits 10 (omega arith))
