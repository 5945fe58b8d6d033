use Rattle.std.proofs.Common.{◌<◌, ℕ, get_or, None}
use Rattle.std.specs.Prelude.{IsSome}
use Rattle.cube_rings.proofs.ends.is_sealed.Given as goal

abbrev pub invariant-loop-j : goal.invariant-loop-j
invariant-loop-j l = (k : ℕ) → k < l.j → IsSome (get_or l.end.receipts k None)
