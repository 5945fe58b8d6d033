use Rattle.std.proofs.Common.{◌≡◌, ◌++◌, map, take}
use Rattle.cube_core.specs.Text.{coord_text}
use Rattle.cube_lines.specs.Parts.{parts}
use Rattle.cube_text.proofs.print.put_key.Given as goal

abbrev pub invariant-loop-dimension : goal.invariant-loop-dimension
invariant-loop-dimension l =
    l.text.items ≡ l.initial.text.items ++ parts (map coord_text (take l.dimension l.cell.0.coords))
