use Rattle.std.proofs.Common.{◌≡◌, ◌≤◌, ◌*◌, take}
use Rattle.std.specs.Prelude.{sum_by}
use Rattle.cube_cells.specs.Gathered.{bytes_sum_of}
use Rattle.cube_cells.proofs.cube.gathered.share_of.Given as goal

abbrev pub invariant-loop-place : goal.invariant-loop-place
invariant-loop-place l =
    (l.sum ≡ sum_by bytes_sum_of (take l.place l.fact.dims)) × (l.sum ≤ 4294967295 * l.place)
