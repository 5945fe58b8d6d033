use Rattle.std.proofs.Common.{◌≡◌, ◌+◌, length}
use Rattle.cube_text.specs.Rows.{IsColumn}
use Rattle.cube_text.proofs.print.column_of.Given as goal

abbrev pub invariant-loop-place : goal.invariant-loop-place
invariant-loop-place l =
    (l.from + length l.column.items ≡ l.place) × IsColumn l.aggregate l.cells.cells l.from l.column.items
