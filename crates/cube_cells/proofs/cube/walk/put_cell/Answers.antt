use Rattle.std.proofs.Common.{rules, length, ◌∷◌}
use Rattle.std.specs.List.Sorted.{IsPermutation}
use Rattle.cube_cells.specs.Cube.{empty_tally}
use Rattle.cube_cells.specs.Tally.{PlusFact}
use Rattle.cube_cells.proofs.Cells.WalkLaws.{AddsIn-new, PlusFact-empty_tally}
use Rattle.cube_cells.proofs.cube.walk.put_cell.Goals as goal

pub returns-clause-added : goal.returns-clause-added
returns-clause-added g c =
    let plus : PlusFact c.args.values.now (empty_tally (length c.args.values.now)) c.gather.new.self =
    PlusFact-empty_tally c.args.values.now (length c.args.values.now) c.in_ok-cell.cell c.gather.new.self
    c.in_ok-cell.ensures.tally c.in_ok-cell.ensures.measures c.in_ok-gather.ensures.added in
    let moved : IsPermutation ((c.args.codes, c.gather.new.self) ∷ c.args.cells.now.entries) c.insert.new.self.entries =
    search rules in
    AddsIn-new c.args.codes c.args.values.now c.args.cells.now.entries c.insert.new.self.entries c.gather.new.self
    c.requires c.in_ok-insert.ensures.updates.0 moved plus c.in_ok-gather.ensures.held
