use Rattle.std.proofs.Common.{◌≡◌, ◌-◌, ◌++◌}
use Rattle.std.specs.Prelude.{replicate}
use Rattle.cube_core.specs.Plain.{moved_from}
use Rattle.cube_feed.proofs.units.write_moved.Given as goal

-- with the zeros to come it is the whole number
abbrev pub invariant-loop-done : goal.invariant-loop-done
invariant-loop-done l = l.units.items ++ replicate (l.wanted - l.done) 48 ≡ moved_from l.digits l.place l.field
