use Rattle.std.proofs.Common.{◌<◌, [], length, arith}
use Rattle.cube_core.specs.declared.key.Key.{Key}
use Rattle.cube_cells.specs.Tally.{Tally}
use Rattle.cube_text.proofs.PartLaws.{GoesOn-none, GoesOn-cell}
use Rattle.cube_text.proofs.print.put_block.Goals as goal

pub loop-place-init : goal.loop-place-init
loop-place-init c = GoesOn-none c.args.digits.now c.args.cells.now c.args.from c.args.text.now.items

pub loop-place-preserved : goal.loop-place-preserved
loop-place-preserved c =
    let i = c.loop-place.place in
    let o = c.args.cells.now in
    let inside : i < length o.cells = omega arith in
    let unused : Key × Tally = (record { coords = [] }, record { facts = 0; bags = [] }) in
    GoesOn-cell c.args.digits.now o c.args.from i unused _ _ _ inside c.loop-place.invariant (c.in_ok-put_cell.ensures unused)
