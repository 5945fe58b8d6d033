use Rattle.std.proofs.Common.{◌≡◌, ◌++◌, replicate}
use Rattle.cube_lines.proofs.units.push_zeros.Given as goal

abbrev pub invariant-loop : goal.invariant-loop
invariant-loop l = l.text.items ≡ l.initial.text.items ++ replicate l.counter 48
