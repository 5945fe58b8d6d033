use Rattle.std.proofs.Common.{◌≡◌, ℕ, List, subst}
use Rattle.std.specs.Prelude.{IfOk}
use Rattle.cube_cells.proofs.Cells.NewLaws.{sets_of_part-one}
use Rattle.cube_build.proofs.builder.Builder.new.Goals as goal

pub returns-clause-sets : goal.returns-clause-sets
returns-clause-sets c = subst (λ (sets : List ℕ). IfOk c.new_part.result (λ builder. builder.cube.sets ≡ sets))
    (sets_of_part-one c.args.schema.now.grouping_sets) c.new_part.ensures.sets
