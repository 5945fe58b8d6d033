use Rattle.std.proofs.Common.{◌∙◌, sym, subst}
use Rattle.cube_values.specs.Statistics.{HasDifferent}
use Rattle.cube_values.proofs.StatisticsLaws.{HasDifferent-AreInOrder}
use Rattle.cube_values.proofs.counted.Counted.different.Goals as goal

pub returns : goal.returns
returns c = subst (HasDifferent c.args.self.now) (sym (c.len.ensures ∙ c.in_ok-pairs.pairs.ok.0))
    (HasDifferent-AreInOrder c.args.self.now c.in_ok-pairs.pairs.items c.in_ok-pairs.ensures)
