-- The base cuboid of some facts: their cells over the finest grouping set (Gray et al. 1997).
use Rattle.cube_cells.specs.Cube.{Lattice}
use Rattle.cube_cells.specs.declared.cube.base_cuboid.BaseCuboid.{BaseCuboid}
use Rattle.cube_cells.specs.declared.cube.base_cuboid.BaseCuboid.TheVariants.{Summaries, Numbers}

-- the cells of a base cuboid, whatever they keep of the values
abbrev pub cells_of_cuboid : BaseCuboid → Lattice
cells_of_cuboid (Summaries cells) = cells
cells_of_cuboid (Numbers cells) = cells
