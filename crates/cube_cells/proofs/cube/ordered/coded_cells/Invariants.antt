use Rattle.std.proofs.Common.{◌≡◌, map, take}
use Rattle.cube_cells.specs.Codes.{Dictionaries}
use Rattle.cube_cells.specs.Tally.{Tally}
use Rattle.cube_cells.specs.declared.cube.codes.Codes.{Codes}
use Rattle.cube_cells.proofs.cube.ordered.coded_cells.Given as goal

abbrev pub invariant-loop-place : goal.invariant-loop-place
invariant-loop-place l =
    map {B = Dictionaries × (Codes × Tally)} (λ coded. (
      coded.dictionaries.now,
      (coded.codes.now, coded.cell.now),
    )) l.cells.items
    ≡ map (λ place. (l.dictionaries, (place.codes.now, place.cell.now))) (take l.place-index l.places)
