use Rattle.std.proofs.Common.{◌^◌, ◌≤◌, arith}
use Rattle.std.proofs.Math.Nat.{one-le-pow}
use Rattle.cube_values.proofs.percentile.percentile_place.Goals as goal

pub overflow_sub-place : goal.overflow_sub-place
overflow_sub-place c =
    let some : 1 ≤ 10 ^ c.args.places = one-le-pow c.args.places 10 (omega arith) in
    grind (arith, some)

pub nonzero_div-place : goal.nonzero_div-place
nonzero_div-place c =
    let some : 1 ≤ 10 ^ c.args.places = one-le-pow c.args.places 10 (omega arith) in
    grind (arith, some)
