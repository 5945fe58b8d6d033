use Rattle.std.proofs.Common.{◌≡◌, ◌≤◌, ◌++◌, take}
use Rattle.cube_core.specs.Wide.{long_decimal}
use Rattle.cube_lines.proofs.long_parse.more_of_wide.Given as goal

abbrev pub invariant-loop-place : goal.invariant-loop-place
invariant-loop-place l =
    record { some : 1 ≤ l.number; read : long_decimal l.fn.front ++ take l.place l.text ≡ long_decimal l.number }
