use Rattle.std.proofs.Common.{rules, sym, ◌∙◌, ◌≡◌, length}
use Rattle.cube_cells.proofs.Codes.KeyLaws.{HasCodes, look_up-coded, no_cell-width, IfSome-option_copied}
use Rattle.cube_cells.proofs.Codes.KeyLaws.{coded_at-width}
use Rattle.cube_cells.specs.Levels.{cells_of}
use Rattle.cube_cells.proofs.Cells.LeveledLaws.{coded_at-IsLeveled}
use Rattle.cube_cells.proofs.cube.Cube.get.Goals as goal

pub returns-then-len-clause-cell : goal.returns-then-len-clause-cell
returns-then-len-clause-cell g c =
    let len : length c.self.inside.dictionaries.items ≡ c.self.inside.dictionaries.len = search rules in
    rw (← c.self.view_is)
    (sym (no_cell-width c.self.inside.dictionaries.items (cells_of c.self.inside.levels.items) c.args.key.now
    (λ same. c.if-len.true (c.len.ensures ∙ same ∙ len ∙ sym c.len-2.ensures))))

pub returns-clause-cell : goal.returns-clause-cell
returns-clause-cell g c =
    let are = rw (c.deref.ensures.value, c.as_slice.ensures) at c.codes_of_coords-codes.ensures.codes in
    let has : HasCodes c.self.inside.dictionaries.items c.args.key.now c.codes_of_coords-codes.result =
    record { are = are; eight = c.codes_of_coords-codes.ensures.eight } in
    rw (← c.self.view_is) (rw c.deref-2.ensures.value at c.find_cell.ensures
    ∙ sym (coded_at-IsLeveled c.codes_of_coords-codes.result c.self.invariant) ∙ sym (look_up-coded
    c.self.inside.dictionaries.items (length c.self.inside.schema.measures) (cells_of c.self.inside.levels.items)
    c.args.key.now c.codes_of_coords-codes.result has c.self.invariant.coded.each))

pub returns-clause-width : goal.returns-clause-width
returns-clause-width g c = rw (← c.self.view_is)
    (IfSome-option_copied (λ t. length t.bags ≡ length c.self.inside.schema.measures) c.find_cell.result _
    (rw c.deref-2.ensures.value at c.find_cell.ensures
    ∙ sym (coded_at-IsLeveled c.codes_of_coords-codes.result c.self.invariant))
    (coded_at-width c.self.inside.dictionaries.items (length c.self.inside.schema.measures)
    (cells_of c.self.inside.levels.items) c.codes_of_coords-codes.result c.self.invariant.coded.each))

pub codes_of_coords-codes-requires-clause-width : goal.codes_of_coords-codes-requires-clause-width
codes_of_coords-codes-requires-clause-width g c =
    let len : length c.self.inside.dictionaries.items ≡ c.self.inside.dictionaries.len = search rules in
    rw (c.as_slice.ensures, c.deref.ensures.value)
    (sym c.len.ensures ∙ c.if-len.false ∙ c.len-2.ensures ∙ sym len)
