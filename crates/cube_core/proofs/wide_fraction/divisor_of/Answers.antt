use Rattle.std.proofs.Common.{subst}
use Rattle.std.specs.Int.{IsGcd}
use Rattle.std.proofs.lemmas.Nat.Gcd.{IsGcd-from_mod}
use Rattle.std.proofs.Math.Nat.{pos_of_dvd_of_pos}
use Rattle.cube_core.proofs.wide_fraction.divisor_of.Goals as goal

pub returns-clause-positive : goal.returns-clause-positive
returns-clause-positive c = pos_of_dvd_of_pos c.greatest_common_divisor.ensures.0 c.requires

pub returns-clause-greatest : goal.returns-clause-greatest
returns-clause-greatest c =
    IsGcd-from_mod c.args.numerator c.args.denominator c.greatest_common_divisor.result
    (subst (λ k. IsGcd c.args.denominator k c.greatest_common_divisor.result) c.rest-rest.ensures
    c.greatest_common_divisor.ensures)
