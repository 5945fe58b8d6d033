use Rattle.cube_core.proofs.ValueLaws.{all_stand_for-end}
use Rattle.cube_core.proofs.key.+all_stand_for.Goals as goal

pub returns-in_default : goal.returns-in_default
returns-in_default t c = rw c.len.ensures
    (all_stand_for-end c.args.coords.now c.args.values.now c.args.place c.in_default.ensures.cases c.requires)
