use Rattle.std.proofs.Common.{◌≡◌, ◌<◌, rules, arith, subst, unsigned_abs}
use Rattle.std.specs.Int.{IsGcd}
use Rattle.std.proofs.Math.Facts.{to_z-of_z}
use Rattle.std.proofs.lemmas.Bool.{eqb-true}
use Rattle.cube_merge.proofs.kind.is_in_lowest_terms.Goals as goal

pub returns-then-numerator-p : goal.returns-then-numerator-p
returns-then-numerator-p c same =
    let denominator : c.reduced-numerator.result.1 ≡ c.args.q = eqb-true c.reduced-numerator.result.1 c.args.q same in
    let numerator : c.reduced-numerator.result.0 ≡ c.args.p = search (rules, to_z-of_z) in
    let some : 0 < c.args.q = search (rules, arith) in (
      some,
      subst (λ p. IsGcd (unsigned_abs p) c.args.q 1) numerator
          (subst (λ q. IsGcd (unsigned_abs c.reduced-numerator.result.0) q 1) denominator
          c.reduced-numerator.ensures.coprime),
    )
