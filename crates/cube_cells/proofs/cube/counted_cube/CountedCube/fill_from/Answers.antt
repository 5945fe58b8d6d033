use Rattle.std.proofs.Common.{map}
use Rattle.cube_cells.specs.TextNumbers.{number_in}
use Rattle.cube_core.specs.TextPlaces.{counted_by}
use Rattle.cube_cells.proofs.CountedCubeLaws.{HasCounted-IsCubeOfAll}
use Rattle.cube_cells.proofs.cube.counted_cube.CountedCube.fill_from.Goals as goal

pub fill-requires-clause-facts : goal.fill-requires-clause-facts
fill-requires-clause-facts c = (map (counted_by _ _) c.requires.0, c.requires.1.all)

pub returns-clause-has : goal.returns-clause-has
returns-clause-has c = λ facts made.
    let mine = rw (← c.self.view_is) at made in
    HasCounted-IsCubeOfAll facts c.self.inside.texts c.args.numbers c.fill.new.self
    (c.in_ok-fill.ensures.facts _ mine.all) mine.listed
