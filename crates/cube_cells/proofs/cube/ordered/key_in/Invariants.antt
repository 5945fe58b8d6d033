use Rattle.std.proofs.Common.{◌≡◌, ◌++◌, drop}
use Rattle.cube_cells.specs.Codes.{coords_at}
use Rattle.cube_cells.proofs.cube.ordered.key_in.Given as goal

abbrev pub invariant-loop-place : goal.invariant-loop-place
invariant-loop-place l = l.coords.items ++ coords_at (drop l.place l.dictionaries) (drop l.place l.codes.codes)
    ≡ coords_at l.dictionaries l.codes.codes
