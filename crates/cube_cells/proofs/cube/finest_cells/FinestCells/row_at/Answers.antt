use Rattle.std.proofs.Common.{arith}
use Rattle.cube_cells.proofs.Cells.SchemaLaws.{few_dimensions, its_schema}
use Rattle.cube_cells.proofs.cube.finest_cells.FinestCells.row_at.Goals as goal

pub key_in-requires : goal.key_in-requires
key_in-requires g c = rw c.deref.ensures.value (omega (
  arith,
  c.self.invariant.0.coded.lattice.dictionaries,
  few_dimensions (its_schema c.self.invariant.0.coded.lattice),
))
