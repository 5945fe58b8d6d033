use Rattle.std.proofs.Common.{◌≤◌, ◌-◌}
use Rattle.cube_text.specs.Rows.{GoesOn}
use Rattle.cube_text.proofs.print.put_cells.Given as goal

abbrev pub invariant-loop-done : goal.invariant-loop-done
invariant-loop-done l = (l.done ≤ l.to) × GoesOn l.digits l.cells l.from l.done l.initial.text.items l.text.items

abbrev pub decreases-loop-done : goal.decreases-loop-done
decreases-loop-done l = l.to - l.done
