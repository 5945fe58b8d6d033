use Rattle.std.proofs.Common.{arith}
use Rattle.cube_values.proofs.BagLaws.{size_of_same}
use Rattle.cube_values.proofs.log.join_counts.Goals as goal

pub join_at-requires-clause-fits : goal.join_at-requires-clause-fits
join_at-requires-clause-fits c =
    omega (arith, c.requires.fits, size_of_same c.args.pairs.now c.loop-place.pairs c.loop-place.invariant.1)
