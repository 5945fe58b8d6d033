use Rattle.std.proofs.Common.{◌≡◌, length, take}
use Rattle.cube_cells.specs.Codes.{AreCodesOf}
use Rattle.cube_cells.proofs.cube.codes_of_coords.Given as goal

abbrev pub invariant-loop-place : goal.invariant-loop-place
invariant-loop-place l = record {
  eight : length l.codes ≡ 8;
  codes : AreCodesOf (take l.place l.dictionaries) (take l.place l.coords) l.codes;
}
