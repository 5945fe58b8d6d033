use Rattle.std.proofs.Common.{◌<◌, ◌∙◌, sym, length, arith}
use Rattle.cube_cells.proofs.Codes.KeyLaws.{length-coords_at, get_or-coords_at}
use Rattle.cube_cells.proofs.cube.keyed.KeyedCell.coord.Goals as goal

pub coord_in-requires-clause-within : goal.coord_in-requires-clause-within
coord_in-requires-clause-within c =
    rw (← c.self.view_is, length-coords_at c.self.inside.dictionaries.now c.self.inside.codes.now.codes) at c.requires

pub returns : goal.returns
returns c =
    let dictionaries = c.self.inside.dictionaries.now in
    let codes = c.self.inside.codes.now.codes in
    let inside : c.args.dimension < length dictionaries =
    rw (← c.self.view_is, length-coords_at dictionaries codes) at c.requires in
    let within : c.args.dimension < length codes = omega (arith, inside, c.coord_in.ensures.eight, c.self.invariant) in
    c.coord_in.ensures.coord
    ∙ rw (← c.self.view_is) (sym (get_or-coords_at dictionaries codes c.args.dimension inside within))
