use Rattle.std.proofs.Common.{◌<◌, ◌∙◌, sym, length, arith}
use Rattle.cube_cells.proofs.Cells.SchemaLaws.{few_dimensions, its_schema}
use Rattle.cube_cells.proofs.Codes.KeyLaws.{get_or-coords_at}
use Rattle.cube_cells.proofs.cube.finest_cells.FinestCells.coord.Goals as goal

pub coord_of-requires-clause-few : goal.coord_of-requires-clause-few
coord_of-requires-clause-few g c = rw c.deref.ensures.value (omega (
  arith,
  c.self.invariant.0.coded.lattice.dictionaries,
  few_dimensions (its_schema c.self.invariant.0.coded.lattice),
))

pub coord_of-requires-clause-within : goal.coord_of-requires-clause-within
coord_of-requires-clause-within g c = rw c.deref.ensures.value (rw (← c.self.view_is) at c.requires)

pub returns : goal.returns
returns g c =
    let dictionaries = c.self.inside.texts.items in
    let codes = c.args.codes.now.codes in
    let inside : c.args.dimension < length dictionaries = rw (← c.self.view_is) at c.requires in
    let within : c.args.dimension < length codes = omega (
      arith,
      inside,
      c.coord_of.ensures.eight,
      c.self.invariant.0.coded.lattice.dictionaries,
      few_dimensions (its_schema c.self.invariant.0.coded.lattice),
    ) in
    (rw c.deref.ensures.value at c.coord_of.ensures.coord)
    ∙ rw (← c.self.view_is) (sym (get_or-coords_at dictionaries codes c.args.dimension inside within))
