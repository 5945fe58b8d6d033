use Rattle.std.proofs.Common.{◌≡◌, take}
use Rattle.cube_core.proofs.key.copy_coords.Given as goal

abbrev pub invariant-loop-coord : goal.invariant-loop-coord
invariant-loop-coord l = l.copies.items ≡ take l.coord-index l.coords
