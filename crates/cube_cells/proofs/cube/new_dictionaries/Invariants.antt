use Rattle.std.proofs.Common.{◌≡◌, replicate, []}
use Rattle.cube_cells.proofs.cube.new_dictionaries.Given as goal

abbrev pub invariant-loop-place : goal.invariant-loop-place
invariant-loop-place l = l.dictionaries.items ≡ replicate l.place []
