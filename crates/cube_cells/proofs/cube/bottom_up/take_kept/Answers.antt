use Rattle.std.proofs.Common.{◌<◌, arith, length}
use Rattle.cube_cells.proofs.Filling.BottomUpLaws.{take_kept-more}
use Rattle.cube_cells.proofs.cube.bottom_up.take_kept.Goals as goal

pub loop-item-preserved : goal.loop-item-preserved
loop-item-preserved g c =
    let inside : c.loop-item.item-index < length c.args.items.now = omega (arith, c.loop-item-test.true) in
    take_kept-more g.S.TakesCells.takes c.args.kept.now c.args.items.now c.loop-item.item-index c.item-item.result
    c.args.sink.now c.loop-item.sink c.take_if_kept.new.sink c.item-item.is inside c.loop-item.invariant
    c.in_ok-take_if_kept.ensures
