use Rattle.std.proofs.Common.{◌≡◌, ◌<◌, ℕ, get_or, false}
use Rattle.cube_rings.proofs.settling.is_wanting.Given as goal

abbrev pub invariant-loop-gatherer : goal.invariant-loop-gatherer
invariant-loop-gatherer g l = (k : ℕ) (d : _) → k < l.gatherer-index → (get_or l.gatherers k d).wanting ≡ false
