-- Places: where the rows of a cube come from, found level by level (this project's choice).
use Rattle.std.specs.Prelude.{◌≡◌, ℕ, List, map, filter, All}
use Rattle.cube_cells.specs.Coded.{CodedCells}
use Rattle.cube_cells.specs.Ranks.{ranks_of}
use Rattle.cube_cells.specs.Rows.{are_wanted_codes}
use Rattle.cube_cells.specs.declared.cube.ordered.Place.{Place}
use Rattle.cube_cells.specs.declared.cube.rows.Want.{Want}

-- these are the places of the wanted ones of some cells, in their order, each with the ranks of its codes
pub record ArePlacesOf (ranks : List (List ℕ)) (wants : List Want) (cells : CodedCells)
    (places : List Place)
    : Type 0 where
  pub cells_are : map (λ place. (place.codes.now, place.cell.now)) places
      ≡ filter (λ cell. are_wanted_codes wants cell.0.codes) cells
  pub ranks_are : All (λ place. place.ranks ≡ ranks_of ranks place.codes.now.codes) places
