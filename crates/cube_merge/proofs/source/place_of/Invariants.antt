use Rattle.std.proofs.Common.{◌≡◌, false, take}
use Rattle.cube_core.specs.PartialForm.{has_aggregate}
use Rattle.cube_merge.proofs.source.place_of.Given as goal

abbrev pub invariant-loop-place : goal.invariant-loop-place
invariant-loop-place l = has_aggregate l.wanted (take l.place l.given) ≡ false
