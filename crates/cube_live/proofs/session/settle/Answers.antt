use Rattle.std.proofs.Common.{rules}
use Rattle.cube_live.proofs.session.settle.Goals as goal

pub returns-in-Ok-clause-kept : goal.returns-in-Ok-clause-kept
returns-in-Ok-clause-kept g c = search rules
