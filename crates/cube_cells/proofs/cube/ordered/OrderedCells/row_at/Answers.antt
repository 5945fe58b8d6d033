use Rattle.std.proofs.Common.{◌<◌, ap, length, arith}
use Rattle.std.proofs.lemmas.List.{get_or_read, length-map}
use Rattle.cube_core.specs.Layout.{sample_layout}
use Rattle.cube_core.specs.declared.key.Key.{Key}
use Rattle.cube_core.proofs.SufficesLaws.{all_suffice_kept}
use Rattle.cube_cells.specs.Codes.{key_at}
use Rattle.cube_cells.specs.Rows.{CellsInOrder}
use Rattle.cube_cells.specs.Tally.{Tally}
use Rattle.cube_cells.specs.declared.cube.ordered.Coded.{Coded}
use Rattle.cube_cells.proofs.cube.ordered.OrderedCells.row_at.Goals as goal

pub key_in-requires : goal.key_in-requires
key_in-requires c =
    let cells = c.self.inside.cells.items in
    let coded = c.index-coded.result.now in
    let cell_of : Coded → Key × Tally = λ p. (key_at p.dictionaries.now p.codes.now.codes, p.cell.now) in
    let long = length-map cells cell_of in
    let inside : c.args.place < length cells =
    omega (arith, long, ap (λ (o : CellsInOrder). length o.cells) c.self.view_is, c.requires) in
    rw (get_or_read cells c.args.place coded inside c.index-coded.ensures coded)
    (c.self.invariant c.args.place coded inside).0

pub row_of-requires-clause-measures : goal.row_of-requires-clause-measures
row_of-requires-clause-measures c =
    let cells = c.self.inside.cells.items in
    let coded = c.index-coded.result.now in
    let cell_of : Coded → Key × Tally = λ p. (key_at p.dictionaries.now p.codes.now.codes, p.cell.now) in
    let long = length-map cells cell_of in
    let inside : c.args.place < length cells =
    omega (arith, long, ap (λ (o : CellsInOrder). length o.cells) c.self.view_is, c.requires) in
    rw (get_or_read cells c.args.place coded inside c.index-coded.ensures coded)
    (c.self.invariant c.args.place coded inside).1

pub row_of-requires-clause-keeps : goal.row_of-requires-clause-keeps
row_of-requires-clause-keeps c =
    all_suffice_kept (record sample_layout { aggregates = c.self.inside.aggregates.now })
