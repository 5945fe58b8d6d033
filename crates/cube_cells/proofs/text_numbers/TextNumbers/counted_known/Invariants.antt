use Rattle.std.proofs.Common.{take}
use Rattle.cube_core.specs.TextPlaces.{last_values}
use Rattle.cube_cells.proofs.TextNumberLaws.{AddsNumbers}
use Rattle.cube_cells.proofs.text_numbers.TextNumbers.counted_known.Given as goal

abbrev pub invariant-loop-place : goal.invariant-loop-place
invariant-loop-place l =
    AddsNumbers l.self (take l.place (last_values l.texts l.fact)) l.fact.measures l.measures
