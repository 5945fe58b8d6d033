use Rattle.std.proofs.Common.{◌<◌, take, get_or, length, arith, []}
use Rattle.std.proofs.lemmas.List.{take_more}
use Rattle.cube_core.specs.declared.key.Key.{Key}
use Rattle.cube_cells.specs.Tally.{Tally}
use Rattle.cube_cells.specs.Rows.{IsRowOf}
use Rattle.cube_core.proofs.ListLaws.{AllZip-push}
use Rattle.cube_cells.proofs.cube.ordered.OrderedCells.rows.Goals as goal

pub loop-place-preserved : goal.loop-place-preserved
loop-place-preserved c =
    let i = c.loop-place.place in
    let cells = c.args.self.now.cells in
    let aggregates = c.args.self.now.aggregates in
    let inside : i < length cells = omega arith in
    let unused : Key × Tally = (record { coords = [] }, record { facts = 0; bags = [] }) in
    rw (c.in_ok-push.ensures.items, take_more cells i unused inside)
    (AllZip-push (IsRowOf aggregates) (take i cells) c.loop-place.rows.items
    (get_or cells i unused) c.in_ok-row_at.field-0 c.loop-place.invariant (c.in_ok-row_at.ensures unused))
