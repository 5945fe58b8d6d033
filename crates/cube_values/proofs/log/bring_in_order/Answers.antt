use Rattle.std.proofs.Common.{arith}
use Rattle.cube_values.proofs.BagLaws.{size_of_same}
use Rattle.cube_values.proofs.log.bring_in_order.Goals as goal

pub join_counts-requires-clause-fits : goal.join_counts-requires-clause-fits
join_counts-requires-clause-fits c =
    omega (arith, c.requires, size_of_same c.args.pairs.now c.sort_numbers.new.pairs c.sort_numbers.ensures.same)
