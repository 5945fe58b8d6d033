use Rattle.std.proofs.Common.{◌≡◌, ◌≤◌, ◌++◌, take, decimal}
use Rattle.cube_lines.proofs.parse.more_of_long.Given as goal

abbrev pub invariant-loop-place : goal.invariant-loop-place
invariant-loop-place l =
    record { some : 1 ≤ l.number; read : decimal l.front ++ take l.place l.text ≡ decimal l.number }
