use Rattle.std.proofs.Common.{rules}
use Rattle.cube_merge.proofs.gather.made_of.Goals as goal

pub returns-in-Max-clause-made : goal.returns-in-Max-clause-made
returns-in-Max-clause-made c = search rules
