use Rattle.std.proofs.Common.{refl, zero-add, arith}
use Rattle.std.proofs.lemmas.Grind.{common_steps}
use Rattle.cube_core.proofs.SetLaws.{range_with_len-more}
use Rattle.cube_core.proofs.schema_toml.grouping.all_sets.Goals as goal

pub loop-set-preserved : goal.loop-set-preserved
loop-set-preserved c =
    rw (
      c.in_ok-push.ensures.items,
      c.loop-set.invariant,
      range_with_len-more 0 c.loop-set.set,
      zero-add c.loop-set.set,
    ) refl

pub returns : goal.returns
returns c = grind (arith, common_steps)
