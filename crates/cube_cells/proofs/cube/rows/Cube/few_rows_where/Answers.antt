use Rattle.std.specs.List.{AllZip}
use Rattle.std.proofs.lemmas.Result.{IfOk-weaker}
use Rattle.cube_cells.specs.Rows.{IsRowOf}
use Rattle.cube_cells.proofs.Rows.RowLaws.{AreRowsOf-key_cmp, is_aggregate_of-IsPermutation}
use Rattle.cube_cells.proofs.cube.rows.Cube.few_rows_where.Goals as goal

pub of-requires-clause-aggregates : goal.of-requires-clause-aggregates
of-requires-clause-aggregates c =
    rw (c.deref-4.ensures.value, c.aggregates-aggregates.ensures.value)
    (is_aggregate_of-IsPermutation c.args.wants.now (λ place. (place.codes.now, place.cell.now))
    c.in_ok-places.places.items c.self.invariant.coded (rw c.deref-2.ensures.value at c.in_ok-places.ensures.cells))

pub returns : goal.returns
returns c =
    rw (← c.self.view_is) (IfOk-weaker c.rows-2.result _ _ (λ rows in_order. λ test are.
    let zipped : AllZip (IsRowOf c.in_ok-of.field-0.aggregates) c.in_ok-of.field-0.cells rows.items = in_order in
    AreRowsOf-key_cmp test c.args.wants.now
    (λ place. (place.codes.now, place.cell.now)) c.in_ok-places.places.items rows.items c.self.invariant.coded are
    (rw c.deref-2.ensures.value at c.in_ok-places.ensures.cells)
    (rw c.deref.ensures.value at c.in_ok-places.ensures.order)
    (rw (
      c.in_ok-of.ensures.0,
      c.in_ok-of.ensures.1,
      c.aggregates-aggregates.ensures.value,
      c.deref-3.ensures.value,
      c.deref-4.ensures.value,
    ) at zipped))
    c.rows-2.ensures)
