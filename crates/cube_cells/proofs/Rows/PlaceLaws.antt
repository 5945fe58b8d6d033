-- Laws of places: where the rows of a cube come from.
use Rattle.std.proofs.Common.{◌≡◌, List, ◌∷◌, [], ◌++◌, ap, ◌∙◌, map, true}
use Rattle.std.specs.Prelude.{filter}
use Rattle.std.proofs.lemmas.List.{append_assoc, map-append}
use Rattle.cube_cells.specs.Coded.{CodedCells}
use Rattle.cube_cells.specs.Rows.{are_wanted_codes}
use Rattle.cube_cells.specs.Tally.{Tally}
use Rattle.cube_cells.specs.declared.cube.codes.Codes.{Codes}
use Rattle.cube_cells.specs.declared.cube.ordered.Place.{Place}
use Rattle.cube_cells.specs.declared.cube.rows.Want.{Want}

-- a wanted cell is put behind the places, and leaves what is to come
pub wanted-pushed : (wants : List Want) (places : List Place) (place : Place) (rest all : CodedCells)
    → are_wanted_codes wants place.codes.now.codes ≡ true
    → map (λ (p : Place). (p.codes.now, p.cell.now)) places
    ++ filter (λ cell. are_wanted_codes wants cell.0.codes) ((place.codes.now, place.cell.now) ∷ rest) ≡ all
    → map (λ (p : Place). (p.codes.now, p.cell.now)) (places ++ place ∷ [])
    ++ filter (λ cell. are_wanted_codes wants cell.0.codes) rest ≡ all
wanted-pushed wants places place rest all wanted before =
    let cell_of : Place → Codes × Tally = λ p. (p.codes.now, p.cell.now) in
    let others = filter (λ (cell : Codes × Tally). are_wanted_codes wants cell.0.codes) rest in
    ap (λ cells. cells ++ others) (map-append cell_of places (place ∷ []))
    ∙ append_assoc (map cell_of places) (cell_of place ∷ []) others
    ∙ (rw wanted at before)
