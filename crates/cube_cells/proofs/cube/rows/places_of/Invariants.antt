use Rattle.std.proofs.Common.{take}
use Rattle.cube_cells.specs.Levels.{cells_of}
use Rattle.cube_cells.specs.Places.{ArePlacesOf}
use Rattle.cube_cells.proofs.cube.rows.places_of.Given as goal

abbrev pub invariant-loop-level : goal.invariant-loop-level
invariant-loop-level l = ArePlacesOf l.ranks l.wants (cells_of (take l.level-index l.levels)) l.places.items
