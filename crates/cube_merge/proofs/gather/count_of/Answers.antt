use Rattle.std.proofs.Common.{◌<◌, ◌^◌, ap, ◌∙◌, subst}
use Rattle.std.proofs.lemmas.List.{take_all}
use Rattle.cube_core.specs.Merged.{sum_of_counts}
use Rattle.cube_merge.proofs.gather.count_of.Goals as goal

pub returns-clause-fits : goal.returns-clause-fits
returns-clause-fits c = subst (λ n. n < 2 ^ 64)
    (c.loop-place.invariant.sum ∙ ap sum_of_counts (take_all c.loop-place.place c.args.answers.now
    c.loop-place-test.false))
    c.loop-place.invariant.fits
