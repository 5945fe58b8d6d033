use Rattle.std.proofs.Common.{ℕ, ℤ, ◌<◌, FitsSigned, get_or}
use Rattle.std.specs.Int.{w64}
use Rattle.cube_merge.proofs.kind.have_64_bits.Given as goal

abbrev pub invariant-loop-pair : goal.invariant-loop-pair
invariant-loop-pair l = (k : ℕ) (d : ℤ × ℕ) → k < l.pair-index → FitsSigned w64 (get_or l.pairs k d).0
