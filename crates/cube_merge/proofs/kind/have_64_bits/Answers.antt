use Rattle.std.proofs.Common.{ℕ, ℤ, FitsSigned, arith}
use Rattle.std.specs.Int.{w64}
use Rattle.std.proofs.lemmas.List.Elements.{recursion_from_All}
use Rattle.cube_merge.proofs.kind.have_64_bits.Goals as goal

pub returns : goal.returns
returns c = λ _. recursion_from_All (λ (pair : ℤ × ℕ). FitsSigned w64 pair.0) c.args.pairs.now
    (λ k d inside. c.loop-pair.invariant k d (omega (arith, inside, c.loop-pair-test.false)))
