use Rattle.std.proofs.Common.{refl}
use Rattle.cube_cells.proofs.cube.queries.want_of.Goals as goal

pub returns-in-Some : goal.returns-in-Some
returns-in-Some g c = rw c.in-Some.is (c.code_in.result, refl, c.code_in.ensures)
