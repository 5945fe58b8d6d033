use Rattle.std.proofs.Common.{◌≡◌, take}
use Rattle.cube_cells.proofs.text_numbers.first_values.Given as goal

abbrev pub invariant-loop-place : goal.invariant-loop-place
invariant-loop-place l = l.first ≡ take l.place l.values
