use Rattle.std.proofs.Common.{◌≡◌, ◌++◌, map, take}
use Rattle.cube_lines.specs.Parts.{parts}
use Rattle.cube_core.specs.Text.{grouping_name}
use Rattle.cube_lines.proofs.text.push_grouping_names.Given as goal

abbrev pub invariant-loop-dimension : goal.invariant-loop-dimension
invariant-loop-dimension l =
    l.text.items ≡ l.initial.text.items ++ parts (map grouping_name (take l.dimension-index l.dimensions))
