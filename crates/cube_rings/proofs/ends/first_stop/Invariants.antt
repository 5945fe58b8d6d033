use Rattle.std.proofs.Common.{◌≡◌, ◌<◌, ◌+◌, ℕ, get_or}
use Rattle.cube_rings.specs.Ends.{HasNoStop}
use Rattle.cube_rings.specs.declared.parcel.FeederEnd.{FeederEnd}
use Rattle.cube_rings.proofs.ends.first_stop.Given as goal

abbrev pub invariant-loop-end : goal.invariant-loop-end
invariant-loop-end l =
    (l.source ≡ l.end-index + 1) × ((i : ℕ) (d : FeederEnd) → i < l.end-index → HasNoStop (get_or l.ends i d))
