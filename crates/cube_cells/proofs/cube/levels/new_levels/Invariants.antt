use Rattle.std.proofs.Common.{take}
use Rattle.std.specs.List.{AllZip}
use Rattle.std.specs.Prelude.{All}
use Rattle.cube_cells.specs.Levels.{IsNewLevel, IsUnderKey}
use Rattle.cube_cells.proofs.cube.levels.new_levels.Given as goal

abbrev pub invariant-loop-set : goal.invariant-loop-set
invariant-loop-set g l =
    AllZip (IsNewLevel l.measures) (take l.set-index l.sets) l.levels.items × All (IsUnderKey l.key) l.levels.items
