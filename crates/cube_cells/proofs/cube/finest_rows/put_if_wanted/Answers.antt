use Rattle.std.proofs.Common.{◌≡◌, false, rules, true}
use Rattle.cube_cells.specs.Rows.{are_wanted_codes}
use Rattle.cube_cells.proofs.Rows.FinestRowLaws.{AddsWanted-none, AddsWanted-one}
use Rattle.cube_cells.proofs.cube.finest_rows.put_if_wanted.Goals as goal

pub returns-then-not-are_wanted : goal.returns-then-not-are_wanted
returns-then-not-are_wanted g c =
    let other : are_wanted_codes c.args.wants.now c.args.codes.now.codes ≡ false = search rules in
    AddsWanted-none c.args.cells.now c.args.wants.now (c.args.codes.now, c.args.cell.now) c.args.rows.now.items other

pub returns : goal.returns
returns g c =
    let wanted : are_wanted_codes c.args.wants.now c.args.codes.now.codes ≡ true = search rules in
    rw c.in_ok-push.ensures.items (AddsWanted-one c.args.cells.now c.args.wants.now
    (c.args.codes.now, c.args.cell.now) c.in_ok-row.row c.args.rows.now.items wanted c.in_ok-row.ensures)
