use Rattle.std.proofs.Common.{◌<◌, arith, length}
use Rattle.cube_cells.specs.BottomUp.{cells_of_items}
use Rattle.cube_cells.proofs.Filling.BottomUpLaws.{AreUnited-nil, joined-more, joined-requires}
use Rattle.cube_cells.proofs.cube.bottom_up.joined.Goals as goal

pub loop-one-init : goal.loop-one-init
loop-one-init g c = rw c.new-joined.ensures.items AreUnited-nil

pub join_last-requires : goal.join_last-requires
join_last-requires g c =
    let inside : c.loop-one.one-index < length c.args.lent.now = omega (arith, c.loop-one-test.true) in (
      c.requires.items.0,
      joined-requires c.requires.items.0 c.args.lent.now c.loop-one.one-index c.one-item.result
          (cells_of_items c.loop-one.joined.items) c.one-item.is inside c.requires.items.1 c.loop-one.invariant,
    )

pub loop-one-preserved : goal.loop-one-preserved
loop-one-preserved g c =
    let inside : c.loop-one.one-index < length c.args.lent.now = omega (arith, c.loop-one-test.true) in
    joined-more c.args.lent.now c.loop-one.one-index c.one-item.result (cells_of_items c.loop-one.joined.items)
    (cells_of_items c.join_last.new.items.items) c.one-item.is inside c.requires.order c.loop-one.invariant
    c.in_ok-join_last.ensures
