use Rattle.std.proofs.Common.{◌<◌, ◌^◌, rules, subst, sym}
use Rattle.cube_merge.specs.Lawful.{IsVarianceFraction}
use Rattle.cube_merge.proofs.kind.is_variance_fraction.Goals as goal

pub returns-in-Variance : goal.returns-in-Variance
returns-in-Variance c on =
    let terms = c.is_reduced.ensures.terms on in
    let small : c.in-Variance.q < 2 ^ 128 = search rules in
    subst IsVarianceFraction (sym c.in-Variance.is) (c.is_reduced.ensures.below, small, terms.0, terms.1)
