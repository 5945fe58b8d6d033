use Rattle.std.proofs.Common.{◌≡◌, ◌++◌, map}
use Rattle.cube_core.specs.Text.{coord_text}
use Rattle.cube_lines.specs.Parts.{parts}
use Rattle.cube_lines.proofs.parse.parse_coords.Given as goal

abbrev pub invariant-loop : goal.invariant-loop
invariant-loop l = l.text ≡ parts (map coord_text l.coords.items) ++ l.rest
