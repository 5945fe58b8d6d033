use Rattle.std.proofs.Common.{◌≡◌, ◌-◌, ◌≤◌, ◌++◌, length, drop}
use Rattle.csv.specs.Writing.{default_writer, escaped}
use Rattle.cube_lines.proofs.parse.unquote.Given as goal

abbrev pub invariant-loop-at : goal.invariant-loop-at
invariant-loop-at l = record {
  inside : l.at ≤ length l.text;
  inner : drop 1 l.text ≡ escaped default_writer l.field.items ++ drop l.at l.text;
}

abbrev pub decreases-loop-at : goal.decreases-loop-at
decreases-loop-at l = length l.text - l.at
