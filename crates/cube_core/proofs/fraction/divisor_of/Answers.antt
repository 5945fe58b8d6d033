use Rattle.std.proofs.Common.{◌≡◌, ◌%◌, unsigned_abs, FitsSigned, subst}
use Rattle.std.specs.Int.{IsGcd, w128}
use Rattle.std.proofs.lemmas.Int.{to_z-of_z}
use Rattle.std.proofs.lemmas.Nat.Gcd.{IsGcd-from_mod}
use Rattle.std.proofs.Math.Nat.{pos_of_dvd_of_pos}
use Rattle.cube_core.proofs.fraction.divisor_of.Goals as goal

pub returns-clause-positive : goal.returns-clause-positive
returns-clause-positive c = pos_of_dvd_of_pos c.greatest_common_divisor.ensures.0 c.requires

pub returns-clause-greatest : goal.returns-clause-greatest
returns-clause-greatest c =
    let fits : FitsSigned w128 c.args.sum = c.ranges.sum in
    let size : c.unsigned_abs.result ≡ unsigned_abs c.args.sum = simp to_z-of_z at c.unsigned_abs.ensures.value in
    let rest : c.unsigned_abs.result % c.from.result ≡ unsigned_abs c.args.sum % c.args.count = cc in
    IsGcd-from_mod (unsigned_abs c.args.sum) c.args.count c.greatest_common_divisor.result
    (subst (λ k. IsGcd c.args.count k c.greatest_common_divisor.result) rest c.greatest_common_divisor.ensures)
