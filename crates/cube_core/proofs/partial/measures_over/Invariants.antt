use Rattle.std.proofs.Common.{◌≡◌, take, length}
use Rattle.cube_core.specs.Amendment.{fields_over}
use Rattle.cube_core.proofs.partial.measures_over.Given as goal

abbrev pub invariant-loop-i : goal.invariant-loop-i
invariant-loop-i l =
    (length l.fields ≡ length l.olds) × (l.values ≡ fields_over (take l.i l.fields) (take l.i l.olds))
