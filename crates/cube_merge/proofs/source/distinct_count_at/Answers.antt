use Rattle.std.proofs.Common.{ℤ, List, subst}
use Rattle.cube_core.specs.Answer.{IsDistinctCount}
use Rattle.cube_merge.proofs.source.distinct_count_at.Goals as goal

pub returns : goal.returns
returns c = subst (λ (values : List ℤ). IsDistinctCount values c.distinct_count_of.result) c.pairs_of.ensures.values
    c.distinct_count_of.ensures
