use Rattle.std.proofs.Common.{◌≡◌, ◌+◌, length, take}
use Rattle.cube_core.specs.TextPlaces.{last_values}
use Rattle.cube_cells.proofs.TextNumberLaws.{AddsNumbers}
use Rattle.cube_cells.proofs.text_numbers.TextNumbers.measures_known.Given as goal

abbrev pub invariant-loop-place : goal.invariant-loop-place
invariant-loop-place l = record {
  numbers : AddsNumbers l.self (take l.place (last_values l.texts l.fact)) l.fact.measures l.measures.items;
  room : length l.measures.items ≡ length l.fact.measures + l.place;
}
