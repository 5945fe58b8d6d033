use Rattle.std.proofs.Common.{rules}
use Rattle.std.specs.Prelude.{nat_lt}
use Rattle.std.proofs.lemmas.Fn.{filter_same}
use Rattle.cube_values.proofs.LogLaws.{SameHeld-filter}
use Rattle.cube_values.proofs.StatisticsLaws.{AreInOrder-filter}
use Rattle.cube_values.proofs.log.drop_uncounted.Goals as goal

pub returns : goal.returns
returns c = rw (filter_same _ (λ e. nat_lt 0 e.1) _ (λ x b f' k. search rules) _ _ c.retain.ensures.filtered) (record {
  same = SameHeld-filter c.args.pairs.now.items;
  ordered = AreInOrder-filter c.args.pairs.now.items;
})
