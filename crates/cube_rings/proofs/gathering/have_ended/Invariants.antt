use Rattle.std.proofs.Common.{◌≡◌, ◌<◌, ℕ, get_or, true, false}
use Rattle.cube_rings.specs.Gathering.{links_ended}
use Rattle.cube_rings.proofs.gathering.have_ended.Given as goal

abbrev pub invariant-loop-i : goal.invariant-loop-i
invariant-loop-i l = (k : ℕ) → k < l.i → get_or (links_ended l.taken) k false ≡ true
