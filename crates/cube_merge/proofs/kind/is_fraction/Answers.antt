use Rattle.std.proofs.Common.{◌<◌, ◌^◌, FitsSigned, rules, subst, sym, unsigned_abs}
use Rattle.std.specs.Int.{w128, IsGcd}
use Rattle.std.proofs.Math.Facts.{to_z-of_z}
use Rattle.cube_merge.specs.Lawful.{IsFraction}
use Rattle.cube_merge.proofs.kind.is_fraction.Goals as goal

pub returns-in-Ratio : goal.returns-in-Ratio
returns-in-Ratio c on =
    let terms = c.is_in_lowest_terms.ensures on in
    let fits : FitsSigned w128 c.in-Ratio.p = search rules in
    let small : c.in-Ratio.q < 2 ^ 64 = search rules in
    let coprime : IsGcd (unsigned_abs c.in-Ratio.p) c.in-Ratio.q 1 =
    subst (λ p. IsGcd (unsigned_abs p) c.in-Ratio.q 1) (to_z-of_z {w = w128} {z = c.in-Ratio.p} fits) terms.1 in
    subst IsFraction (sym c.in-Ratio.is) (fits, small, terms.0, coprime)
