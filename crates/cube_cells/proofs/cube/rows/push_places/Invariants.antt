use Rattle.std.proofs.Common.{◌≡◌, ◌++◌, map}
use Rattle.std.specs.Prelude.{All, filter}
use Rattle.cube_cells.specs.Ranks.{ranks_of}
use Rattle.cube_cells.specs.Rows.{are_wanted_codes}
use Rattle.cube_cells.proofs.cube.rows.push_places.Given as goal

abbrev pub invariant-loop-codes : goal.invariant-loop-codes
invariant-loop-codes l = record {
  cells : map (λ place. (place.codes.now, place.cell.now)) l.places.items
      ++ filter (λ cell. are_wanted_codes l.wants cell.0.codes) l.codes-iterator
      ≡ map (λ place. (place.codes.now, place.cell.now)) l.initial.places.items
      ++ filter (λ cell. are_wanted_codes l.wants cell.0.codes) l.cells.entries;
  ranks : All (λ place. place.ranks ≡ ranks_of l.ranks place.codes.now.codes) l.initial.places.items
      → All (λ place. place.ranks ≡ ranks_of l.ranks place.codes.now.codes) l.places.items;
}
