use Rattle.std.proofs.Common.{rules}
use Rattle.cube_live.proofs.session.apply.Goals as goal

pub returns-in-Ok-clause-takes : goal.returns-in-Ok-clause-takes
returns-in-Ok-clause-takes c = search rules
