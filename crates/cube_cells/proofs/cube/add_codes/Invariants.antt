use Rattle.std.proofs.Common.{◌≡◌, length, map, take, true}
use Rattle.std.specs.Prelude.{All}
use Rattle.cube_cells.specs.Codes.{AreCodesOf, IsDictionary, are_codes, coord_of_value}
use Rattle.cube_cells.proofs.Codes.CodeLaws.{AddsTextsBelow}
use Rattle.cube_cells.proofs.cube.add_codes.Given as goal

abbrev pub invariant-loop-place : goal.invariant-loop-place
invariant-loop-place l = record {
  eight : length l.codes ≡ 8;
  codes : AreCodesOf (take l.place l.dictionaries) (take l.place (map coord_of_value (take (length l.initial.dictionaries) l.values))) l.codes;
  valid : are_codes (take l.place l.dictionaries) l.codes ≡ true;
  texts : AddsTextsBelow l.place (take (length l.initial.dictionaries) l.values) l.initial.dictionaries l.dictionaries;
  dictionaries : All IsDictionary l.initial.dictionaries → All IsDictionary l.dictionaries;
}
