use Rattle.std.proofs.Common.{arith, pos}
use Rattle.cube_values.proofs.BagLaws.{IsSplit-room, IsSplit-more, IsSplit-SameHeld}
use Rattle.cube_values.proofs.table.Table.of_pairs.Goals as goal

pub add_pair-requires : goal.add_pair-requires
add_pair-requires c = omega (
  arith,
  c.requires,
  IsSplit-room c.args.pairs.now c.loop-pair.pair-index c.loop-pair.table (pos 0, 0)
      c.loop-pair.invariant c.loop-pair-test.true,
)

pub loop-pair-preserved : goal.loop-pair-preserved
loop-pair-preserved c =
    IsSplit-more c.args.pairs.now c.loop-pair.pair-index c.loop-pair.table c.add_pair.new.self (pos 0, 0)
    c.loop-pair.invariant c.loop-pair-test.true c.in_ok-add_pair.ensures

pub returns : goal.returns
returns c = IsSplit-SameHeld c.args.pairs.now c.loop-pair.pair-index c.loop-pair.table c.loop-pair.invariant
    c.loop-pair-test.false
