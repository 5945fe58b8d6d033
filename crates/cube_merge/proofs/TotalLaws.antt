-- A sum of any size, in parts that fit their types.
use Rattle.std.proofs.Common.{◌^◌, ℤ, pos, negsuc, neg_ℤ, ◌+ℤ◌, ◌≤ℤ◌, FitsSigned, arith}
use Rattle.std.specs.Int.{w128}
use Rattle.std.proofs.lemmas.Int.{ints}

-- a number of 128 bits, by its bounds
pub low_of : (z : ℤ) → FitsSigned w128 z → neg_ℤ (pos (2 ^ 127)) ≤ℤ z
low_of (pos n) fits = omega (arith, ints)
low_of (negsuc n) fits = omega (arith, ints)

pub high_of : (z : ℤ) → FitsSigned w128 z → (z +ℤ pos 1) ≤ℤ pos (2 ^ 127)
high_of (pos n) fits = omega (arith, ints)
high_of (negsuc n) fits = omega (arith, ints)

pub within : (z : ℤ) → neg_ℤ (pos (2 ^ 127)) ≤ℤ z → (z +ℤ pos 1) ≤ℤ pos (2 ^ 127) → FitsSigned w128 z
within (pos n) low high = record { sfits = omega (arith, ints) }
within (negsuc n) low high = record { sfits = omega (arith, ints) }
