use Rattle.std.proofs.Common.{◌/◌, subst, sym}
use Rattle.cube_core.specs.Wide.{IsReduced}
use Rattle.cube_core.proofs.ReducedLaws.{IsReduced-IsGcd}
use Rattle.cube_core.proofs.wide_fraction.reduced.Goals as goal

pub returns : goal.returns
returns c =
    let divisor = c.divisor_of-divisor.result in
    subst (λ p. IsReduced c.args.numerator c.args.denominator p (c.args.denominator / divisor))
    (sym c.quotient.ensures)
    (IsReduced-IsGcd c.args.numerator c.args.denominator divisor c.requires c.divisor_of-divisor.ensures.greatest)
