use Rattle.std.proofs.Common.{◌<◌, rules, arith, subst}
use Rattle.std.specs.Int.{IsGcd}
use Rattle.std.proofs.lemmas.Bool.{eqb-true}
use Rattle.cube_core.proofs.wide_fraction.is_reduced.Goals as goal

pub returns-then-denominator-ne0-clause-terms : goal.returns-then-denominator-ne0-clause-terms
returns-then-denominator-ne0-clause-terms c on =
    let some : 0 < c.args.denominator = search (rules, arith) in (
      some,
      subst (IsGcd c.args.numerator c.args.denominator) (eqb-true c.divisor_of.result 1 on)
          c.divisor_of.ensures.greatest,
    )
