use Rattle.std.proofs.Common.{take}
use Rattle.cube_cells.specs.Tally.{AddsValues}
use Rattle.cube_cells.proofs.cell.gather_values.Given as goal

abbrev pub invariant-loop-place : goal.invariant-loop-place
invariant-loop-place g l = AddsValues l.initial.measures l.measures (take l.place l.values)
