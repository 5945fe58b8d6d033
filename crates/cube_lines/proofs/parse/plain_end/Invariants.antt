use Rattle.std.proofs.Common.{◌≡◌, false, take}
use Rattle.csv.specs.Writing.{default_writer, needs_quotes}
use Rattle.cube_lines.proofs.parse.plain_end.Given as goal

abbrev pub invariant-loop-end : goal.invariant-loop-end
invariant-loop-end l = needs_quotes default_writer (take l.end l.text) ≡ false
