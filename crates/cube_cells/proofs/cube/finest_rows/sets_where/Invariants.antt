use Rattle.std.proofs.Common.{◌≡◌, filter, take}
use Rattle.cube_cells.specs.FinestRows.{can_be_of}
use Rattle.cube_cells.proofs.cube.finest_rows.sets_where.Given as goal

abbrev pub invariant-loop-set : goal.invariant-loop-set
invariant-loop-set l = l.found.items ≡ filter (can_be_of l.wants) (take l.set-index l.sets)
