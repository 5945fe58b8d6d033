use Rattle.std.proofs.Common.{take, reverse}
use Rattle.cube_cells.proofs.Filling.FillLaws.{IsMakingLevels}
use Rattle.cube_cells.proofs.cube.fill.levels_from.Given as goal

abbrev pub invariant-loop-place : goal.invariant-loop-place
invariant-loop-place g l =
    IsMakingLevels l.measures l.finest (reverse l.sets) (reverse (take l.place l.sets)) l.levels.items
