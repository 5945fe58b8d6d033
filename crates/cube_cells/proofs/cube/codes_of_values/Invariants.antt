use Rattle.std.proofs.Common.{◌≡◌, length, map, take}
use Rattle.cube_cells.specs.Codes.{AreCodesOf, coord_of_value}
use Rattle.cube_cells.proofs.cube.codes_of_values.Given as goal

abbrev pub invariant-loop-place : goal.invariant-loop-place
invariant-loop-place l = record {
  eight : length l.codes ≡ 8;
  codes : AreCodesOf (take l.place l.dictionaries) (take l.place (map coord_of_value (take (length l.dictionaries) l.values))) l.codes;
}
