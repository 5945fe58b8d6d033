use Rattle.std.proofs.Common.{◌≡◌, take}
use Rattle.cube_cells.specs.BottomUp.{TakesAll, under_keys}
use Rattle.cube_cells.specs.FinestRows.{TakesWanted}
use Rattle.cube_cells.proofs.cube.finest_rows.WantedRowsTakesCells.take_cell.Given as goal

abbrev pub invariant-loop-codes : goal.invariant-loop-codes
invariant-loop-codes g l = record {
  same : l.self.cells ≡ l.initial.self.cells;
  taken : TakesAll TakesWanted l.initial.self (under_keys l.cell (take l.codes-index l.keys)) l.self;
}
