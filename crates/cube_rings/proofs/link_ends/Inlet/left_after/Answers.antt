use Rattle.std.proofs.Common.{rules, arith}
use Rattle.std.proofs.lemmas.Grind.{common_steps}
use Rattle.cube_rings.proofs.link_ends.Inlet.left_after.Goals as goal

pub returns-clause-whole : goal.returns-clause-whole
returns-clause-whole g c = search rules

pub returns-clause-drained : goal.returns-clause-drained
returns-clause-drained g c = grind (arith, common_steps)
