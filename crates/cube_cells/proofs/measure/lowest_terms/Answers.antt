use Rattle.std.proofs.Common.{rules, arith, ◌≡◌, ◌%◌, ℕ, FitsSigned, refl}
use Rattle.std.specs.Prelude.{unsigned_abs, ℤ}
use Rattle.std.specs.Int.{w128}
use Rattle.std.proofs.Math.Nat.{mod-one}
use Rattle.std.proofs.lemmas.Int.{to_z-of_z}
use Rattle.std.proofs.lemmas.Nat.Gcd.{IsGcd-from_mod, IsGcd-from_zero}
use Rattle.cube_core.specs.Fraction.{IsInLowestTerms}
use Rattle.cube_cells.proofs.measure.lowest_terms.Goals as goal

-- a sum by one is the sum
by_one : (sum : ℤ) (count : ℕ) → count ≡ 1 → IsInLowestTerms sum count sum 1
by_one sum count one = record {
  positive = omega arith;
  coprime = IsGcd-from_mod (unsigned_abs sum) 1 1
      (IsGcd-from_zero 1 (unsigned_abs sum % 1) (mod-one (unsigned_abs sum)));
  equal = rw one refl;
}

pub returns-then-count-eq1 : goal.returns-then-count-eq1
returns-then-count-eq1 c =
    let fits : FitsSigned w128 c.args.sum = search rules in
    simp to_z-of_z (by_one c.args.sum c.args.count c.if-count-eq1.true)
