use Rattle.std.proofs.Common.{◌≡◌, ◌<◌, ◌+◌, ℕ, get_or}
use Rattle.cube_rings.specs.Ends.{IsSealed}
use Rattle.cube_rings.specs.declared.parcel.FeederEnd.{FeederEnd}
use Rattle.cube_rings.proofs.ends.first_unsealed.Given as goal

abbrev pub invariant-loop-end : goal.invariant-loop-end
invariant-loop-end l =
    (l.source ≡ l.end-index + 1) × ((i : ℕ) (d : FeederEnd) → i < l.end-index → IsSealed l.builders (get_or l.ends i d))
