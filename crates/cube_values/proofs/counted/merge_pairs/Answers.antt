use Rattle.std.proofs.Common.{arith, pos}
use Rattle.cube_values.specs.Values.{bag_of}
use Rattle.cube_values.proofs.BagLaws.{IsMerging-more_at, IsMerging-room_at, IsMerging-AddsBag_past}
use Rattle.cube_values.proofs.counted.merge_pairs.Goals as goal

pub merge_pair-requires : goal.merge_pair-requires
merge_pair-requires c = omega (
  arith,
  c.requires,
  IsMerging-room_at (bag_of c.args.values.now) c.args.pairs.now
      (bag_of c.loop-pair.values) c.loop-pair.pair-index (pos 0, 0) c.loop-pair-test.true c.loop-pair.invariant,
)

pub loop-pair-preserved : goal.loop-pair-preserved
loop-pair-preserved c = IsMerging-more_at (bag_of c.args.values.now) c.args.pairs.now (bag_of c.loop-pair.values)
    (bag_of c.merge_pair.new.values) c.loop-pair.pair-index (pos 0, 0)
    c.loop-pair-test.true c.loop-pair.invariant c.in_ok-merge_pair.ensures

pub returns : goal.returns
returns c = IsMerging-AddsBag_past (bag_of c.args.values.now) c.args.pairs.now
    (bag_of c.loop-pair.values) c.loop-pair.pair-index c.loop-pair-test.false c.loop-pair.invariant
