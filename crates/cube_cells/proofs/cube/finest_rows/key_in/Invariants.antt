use Rattle.std.proofs.Common.{◌≡◌, ◌++◌, drop, map}
use Rattle.cube_core.specs.Referred.{referred_coord}
use Rattle.cube_cells.specs.Codes.{coords_at}
use Rattle.cube_cells.proofs.cube.finest_rows.key_in.Given as goal

abbrev pub invariant-loop-place : goal.invariant-loop-place
invariant-loop-place l = map referred_coord l.coords.items
    ++ coords_at (drop l.place l.texts) (drop l.place l.codes.codes) ≡ coords_at l.texts l.codes.codes
