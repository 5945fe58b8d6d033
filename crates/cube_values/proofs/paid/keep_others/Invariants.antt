use Rattle.cube_values.proofs.OrderedLaws.{IsKeeping}
use Rattle.cube_values.proofs.paid.keep_others.Given as goal

abbrev pub invariant-loop-place : goal.invariant-loop-place
invariant-loop-place l = IsKeeping l.fn.numbers l.numbers l.owed l.kept l.paid l.place
