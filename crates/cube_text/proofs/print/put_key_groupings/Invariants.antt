use Rattle.std.proofs.Common.{◌≡◌, ◌++◌, map, take}
use Rattle.cube_core.specs.Text.{grouping_text}
use Rattle.cube_lines.specs.Parts.{parts}
use Rattle.cube_text.proofs.print.put_key_groupings.Given as goal

abbrev pub invariant-loop-dimension : goal.invariant-loop-dimension
invariant-loop-dimension l =
    l.text.items ≡ l.initial.text.items ++ parts (map grouping_text (take l.dimension l.cell.0.coords))
