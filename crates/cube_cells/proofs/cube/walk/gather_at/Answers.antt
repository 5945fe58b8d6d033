use Rattle.std.proofs.Common.{rules, ◌≡◌, Some}
use Rattle.cube_cells.specs.Coded.{coded_at, same_codes}
use Rattle.std.specs.Map.{set_value}
use Rattle.cube_cells.proofs.Cells.WalkLaws.{AddsIn-set_value, OnOk-both}
use Rattle.cube_cells.proofs.cube.walk.gather_at.Goals as goal

pub returns-in-Some-clause-added : goal.returns-in-Some-clause-added
returns-in-Some-clause-added g c =
    let old = c.args.cells.now.entries in
    let new = (c.get_mut.follows.lender c.gather.new.self).entries in
    let found : coded_at old c.args.codes ≡ Some c.in-Some.cell.now = search rules in
    let is : new ≡ set_value (same_codes c.args.codes) old c.gather.new.self = search rules in
    OnOk-both c.gather.result (λ plus holds. AddsIn-set_value c.args.codes c.args.values.now old new c.in-Some.cell.now
    c.gather.new.self found is plus holds) c.gather.ensures.added c.gather.ensures.held
