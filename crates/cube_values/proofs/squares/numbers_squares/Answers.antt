use Rattle.std.proofs.Common.{◌<◌, ◌^◌, drop, length, rules}
use Rattle.cube_values.specs.Narrow.{once_each}
use Rattle.cube_values.proofs.StatisticsLaws.{IsSquaredTo-fits}
use Rattle.cube_values.proofs.squares.numbers_squares.Goals as goal

pub plus-sum-requires-clause-left : goal.plus-sum-requires-clause-left
plus-sum-requires-clause-left c =
    let fits : length c.args.numbers.now < 2 ^ 64 = search rules in
    IsSquaredTo-fits c.args.numbers.now (once_each (drop c.loop-number.number-index c.args.numbers.now)) c.loop-number.sum
    c.loop-number.invariant fits
