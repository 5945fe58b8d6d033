use Rattle.std.proofs.Common.{◌≡◌, length}
use Rattle.cube_values.specs.Bag.{SameHeld}
use Rattle.cube_values.specs.Log.{Rises, IsJoined}
use Rattle.cube_values.proofs.log.join_counts.Given as goal

abbrev pub invariant-loop-place : goal.invariant-loop-place
invariant-loop-place l =
    (length l.pairs ≡ l.place-end) × SameHeld l.fn.pairs l.pairs × Rises l.pairs × IsJoined l.pairs l.place
