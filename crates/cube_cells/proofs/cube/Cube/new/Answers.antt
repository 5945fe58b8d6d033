use Rattle.std.proofs.Common.{ℕ, List, subst}
use Rattle.std.specs.Prelude.{IfOk}
use Rattle.cube_cells.specs.Cube.{IsNewLattice}
use Rattle.cube_cells.proofs.Cells.NewLaws.{sets_of_part-one}
use Rattle.cube_cells.proofs.cube.Cube.new.Goals as goal

pub returns-clause-new : goal.returns-clause-new
returns-clause-new c = subst (λ (sets : List ℕ). IfOk c.new_part.result (IsNewLattice c.args.schema.now sets))
    (sets_of_part-one c.args.schema.now.grouping_sets) c.new_part.ensures.new
