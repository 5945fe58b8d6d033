use Rattle.std.proofs.Common.{rules, ◌≡◌, Some}
use Rattle.std.specs.Map.{set_value}
use Rattle.std.proofs.lemmas.Result.{on_ok_weaker}
use Rattle.cube_cells.specs.Coded.{coded_at, same_codes}
use Rattle.cube_cells.proofs.Filling.FillLaws.{MergesIn-set_value}
use Rattle.cube_cells.proofs.cube.merged.merge_own.Goals as goal

pub returns-in-Some-clause-merges : goal.returns-in-Some-clause-merges
returns-in-Some-clause-merges g c =
    let old = c.args.cells.now.entries in
    let new = (c.get_mut.follows.lender c.merge_counted.new.cell).entries in
    let found : coded_at old c.args.codes ≡ Some c.in-Some.cell.now = search rules in
    let is : new ≡ set_value (same_codes c.args.codes) old c.merge_counted.new.cell = search rules in
    on_ok_weaker c.merge_counted.result (λ plus. MergesIn-set_value c.args.codes old new c.in-Some.cell.now
    c.merge_counted.new.cell c.args.more found is plus) c.merge_counted.ensures
