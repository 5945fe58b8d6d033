use Rattle.std.proofs.Common.{Bool, sym, subst}
use Rattle.std.specs.Prelude.{IfOk}
use Rattle.cube_cells.specs.Coded.{AreNewCells}
use Rattle.cube_cells.proofs.Cells.NewLaws.{AreNewCells-nil}
use Rattle.cube_cells.proofs.cube.levels.new_cells.Goals as goal

pub returns-then-has_total-clause-new : goal.returns-then-has_total-clause-new
returns-then-has_total-clause-new g c =
    subst (λ (b : Bool). IfOk c.total_cells.result (λ cells. AreNewCells b c.args.measures cells.entries))
    (sym c.if-has_total.true) c.total_cells.ensures.new

pub returns-else-has_total-clause-new : goal.returns-else-has_total-clause-new
returns-else-has_total-clause-new g c =
    AreNewCells-nil c.args.has_total c.args.measures c.with_hasher.result.entries c.if-has_total.false c.with_hasher.ensures.empty
