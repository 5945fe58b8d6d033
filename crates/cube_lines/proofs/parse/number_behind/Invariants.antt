use Rattle.std.proofs.Common.{◌≡◌, ◌+◌, ◌++◌, decimal, take}
use Rattle.cube_core.specs.Text.{padded}
use Rattle.cube_lines.proofs.parse.number_behind.Given as goal

abbrev pub invariant-loop-place : goal.invariant-loop-place
invariant-loop-place l = padded (l.place + 1) (decimal l.number) ≡ decimal l.front ++ take l.place l.text
