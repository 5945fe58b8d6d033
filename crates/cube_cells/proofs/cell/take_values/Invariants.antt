use Rattle.std.proofs.Common.{take}
use Rattle.cube_cells.specs.Tally.{AddsValues}
use Rattle.cube_cells.proofs.cell.take_values.Given as goal

abbrev pub invariant-loop-place : goal.invariant-loop-place
invariant-loop-place l = AddsValues l.measures l.initial.measures (take l.place l.values)
