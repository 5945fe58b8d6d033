use Rattle.std.proofs.Common.{rules, ◌∷◌}
use Rattle.std.specs.List.Sorted.{IsPermutation}
use Rattle.cube_cells.proofs.Filling.FillLaws.{MergesIn-new}
use Rattle.cube_cells.proofs.cube.fill.put_copy.Goals as goal

pub returns-clause-merges : goal.returns-clause-merges
returns-clause-merges g c =
    let old = c.args.cells.now.entries in
    let moved : IsPermutation ((c.args.codes, c.in_ok-cell.cell) ∷ old) c.insert.new.self.entries = search rules in
    MergesIn-new c.args.codes old c.insert.new.self.entries c.in_ok-cell.cell c.args.more.now c.requires
    c.in_ok-insert.ensures.updates.0 moved c.in_ok-cell.ensures
