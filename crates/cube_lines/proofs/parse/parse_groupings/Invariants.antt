use Rattle.std.proofs.Common.{◌≡◌, ◌++◌, length, map, take}
use Rattle.cube_core.specs.Text.{coord_text, grouping_text}
use Rattle.cube_lines.specs.Parts.{parts}
use Rattle.cube_lines.proofs.parse.parse_groupings.Given as goal

abbrev pub invariant-loop-place : goal.invariant-loop-place
invariant-loop-place l = record {
  long : length l.coords ≡ length l.initial.coords;
  flags : l.text ≡ parts (map grouping_text (take l.place l.coords)) ++ l.rest;
  same : map coord_text l.coords ≡ map coord_text l.initial.coords;
}
