use Rattle.cube_text.specs.Rows.{GoesOn}
use Rattle.cube_text.proofs.print.put_block.Given as goal

abbrev pub invariant-loop-place : goal.invariant-loop-place
invariant-loop-place l = GoesOn l.digits l.cells l.from l.place l.initial.text.items l.text.items
