use Rattle.std.proofs.Common.{◌≡◌, rules, unsigned_abs, FitsSigned, subst, pos, int_div, ◌/◌, sym, ◌∙◌}
use Rattle.std.specs.Int.{IsGcd, w128}
use Rattle.std.proofs.lemmas.Int.{to_z-of_z}
use Rattle.cube_core.specs.Fraction.{IsInLowestTerms}
use Rattle.cube_core.proofs.ReducedFractionLaws.{IsInLowestTerms-IsGcd}
use Rattle.cube_core.proofs.fraction.reduced.Goals as goal

pub returns : goal.returns
returns c =
    let fits : FitsSigned w128 c.args.sum = c.ranges.sum in
    let fits-quotient : FitsSigned w128 c.quotient.result = search rules in
    let greatest : IsGcd (unsigned_abs c.args.sum) c.args.count c.divisor_of-divisor.result
    = simp to_z-of_z at c.divisor_of-divisor.ensures.greatest in
    let numerator : c.quotient.result ≡ int_div c.args.sum (pos c.divisor_of-divisor.result)
    = simp to_z-of_z at c.quotient.ensures in
    subst (λ p. IsInLowestTerms c.args.sum c.args.count p (c.args.count / c.divisor_of-divisor.result))
    (sym (to_z-of_z w128 c.quotient.result fits-quotient ∙ numerator))
    (IsInLowestTerms-IsGcd c.args.sum c.args.count c.divisor_of-divisor.result c.requires greatest)
