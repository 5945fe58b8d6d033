use Rattle.std.proofs.Common.{◌≡◌, map, take}
use Rattle.cube_core.specs.Referred.{referred_coord}
use Rattle.cube_core.proofs.key.Key.new.Given as goal

abbrev pub invariant-loop-coord : goal.invariant-loop-coord
invariant-loop-coord l = l.copies.items ≡ map referred_coord (take l.coord-index l.coords)
