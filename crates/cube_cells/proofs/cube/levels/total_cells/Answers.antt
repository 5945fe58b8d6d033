use Rattle.std.proofs.Common.{◌≡◌, ◌∙◌, ap, arith, None}
use Rattle.cube_cells.specs.Coded.{CodedCells, coded_at}
use Rattle.cube_cells.proofs.Cells.NewLaws.{AreNewCells-one}
use Rattle.cube_cells.proofs.cube.levels.total_cells.Goals as goal

pub returns-clause-new : goal.returns-clause-new
returns-clause-new g c =
    let none : c.in_ok-insert.field-0 ≡ None =
    c.in_ok-insert.ensures.old ∙ ap (λ (cells : CodedCells). coded_at cells c.total.result) c.with_hasher-cells.ensures.empty in
    let one = rw (none, c.with_hasher-cells.ensures.empty) at c.in_ok-insert.ensures.len in
    AreNewCells-one c.args.measures c.insert.new.self.entries c.total.result c.in_ok-empty.field-0 c.total.ensures
    (omega (arith, one)) c.in_ok-insert.ensures.updates.1 c.in_ok-empty.ensures.tally c.in_ok-empty.ensures.measures
