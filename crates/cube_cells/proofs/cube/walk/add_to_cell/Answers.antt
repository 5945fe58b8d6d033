use Rattle.std.proofs.Common.{rules, ◌≡◌, Some}
use Rattle.std.proofs.lemmas.Result.{on_err_weaker}
use Rattle.cube_cells.specs.Coded.{coded_at, same_codes}
use Rattle.std.specs.Map.{set_value}
use Rattle.cube_cells.proofs.Cells.WalkLaws.{AddsIn-set_value, SameCoded-set_value, OnOk-both}
use Rattle.cube_cells.proofs.cube.walk.add_to_cell.Goals as goal

pub returns-in-Some-clause-added : goal.returns-in-Some-clause-added
returns-in-Some-clause-added c =
    let old = c.args.cells.now.entries in
    let new = (c.get_mut.follows.lender c.plus.new.self).entries in
    let found : coded_at old c.args.codes ≡ Some c.in-Some.cell.now = search rules in
    let is : new ≡ set_value (same_codes c.args.codes) old c.plus.new.self = search rules in
    OnOk-both c.plus.result (λ plus holds. AddsIn-set_value c.args.codes c.args.values.now old new c.in-Some.cell.now
    c.plus.new.self found is plus holds) c.plus.ensures.added c.plus.ensures.held

pub returns-in-Some-clause-err : goal.returns-in-Some-clause-err
returns-in-Some-clause-err c =
    let old = c.args.cells.now.entries in
    let new = (c.get_mut.follows.lender c.plus.new.self).entries in
    let found : coded_at old c.args.codes ≡ Some c.in-Some.cell.now = search rules in
    let is : new ≡ set_value (same_codes c.args.codes) old c.plus.new.self = search rules in
    on_err_weaker c.plus.result
    (λ same. SameCoded-set_value c.args.codes old new c.in-Some.cell.now c.plus.new.self found is same)
    c.plus.ensures.err
