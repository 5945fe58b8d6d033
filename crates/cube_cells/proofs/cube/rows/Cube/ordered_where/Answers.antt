use Rattle.std.proofs.Common.{length, arith, ap, List, ℕ}
use Rattle.std.specs.List.{AllZip}
use Rattle.std.proofs.lemmas.Result.{IfOk-weaker}
use Rattle.std.proofs.lemmas.Slice.Zip.{AllZip-long}
use Rattle.cube_cells.specs.Ranks.{AreRanks}
use Rattle.cube_cells.specs.Rows.{IsRowOf}
use Rattle.cube_cells.proofs.Cells.SchemaLaws.{few_dimensions, its_schema}
use Rattle.cube_cells.proofs.Rows.RowLaws.{AreRowsOf-ranks_of, is_aggregate_of-IsPermutation}
use Rattle.cube_cells.proofs.cube.rows.Cube.ordered_where.Goals as goal

pub places_in_order-requires : goal.places_in_order-requires
places_in_order-requires c =
    let dictionaries = c.self.inside.dictionaries.items in
    let long =
    AllZip-long AreRanks dictionaries c.in_ok-ranks.ranks.items (rw c.deref.ensures.value at c.in_ok-ranks.ensures) in
    omega (
      arith,
      long,
      ap (λ (xs : List (List ℕ)). length xs) c.deref-2.ensures.value,
      c.self.invariant.coded.lattice.dictionaries,
      few_dimensions (its_schema c.self.invariant.coded.lattice),
    )

pub of-requires-clause-aggregates : goal.of-requires-clause-aggregates
of-requires-clause-aggregates c =
    rw (c.deref-5.ensures.value, c.aggregates.ensures.value)
    (is_aggregate_of-IsPermutation c.args.wants.now (λ place. (place.codes.now, place.cell.now))
    c.in_ok-places.places.items c.self.invariant.coded (rw c.deref-3.ensures.value at c.in_ok-places.ensures.cells))

pub returns-clause-rows : goal.returns-clause-rows
returns-clause-rows c =
    rw (← c.self.view_is) (IfOk-weaker c.of.result _ _ (λ ordered is. λ test are rows in_order.
    let zipped : AllZip (IsRowOf ordered.aggregates) ordered.cells rows = in_order in
    AreRowsOf-ranks_of c.in_ok-ranks.ranks.items test c.args.wants.now (λ place. (place.codes.now, place.cell.now))
    (λ place. place.ranks) c.in_ok-places.places.items rows c.self.invariant.coded
    (rw c.deref.ensures.value at c.in_ok-ranks.ensures) are
    (rw c.deref-3.ensures.value at c.in_ok-places.ensures.cells)
    (rw c.deref-2.ensures.value at c.in_ok-places.ensures.ranks) c.in_ok-places.ensures.order
    (rw (is.0, is.1, c.aggregates.ensures.value, c.deref-4.ensures.value, c.deref-5.ensures.value) at zipped))
    c.of.ensures)
