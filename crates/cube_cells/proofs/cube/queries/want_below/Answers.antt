use Rattle.std.proofs.Common.{refl}
use Rattle.cube_cells.proofs.cube.queries.want_below.Goals as goal

pub returns-then-is_open : goal.returns-then-is_open
returns-then-is_open g c = rw c.if-is_open.true refl
