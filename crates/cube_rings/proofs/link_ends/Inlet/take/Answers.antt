use Rattle.std.proofs.Common.{rules}
use Rattle.cube_rings.proofs.link_ends.Inlet.take.Goals as goal

pub returns-clause-received : goal.returns-clause-received
returns-clause-received g c = search rules

pub returns-clause-none : goal.returns-clause-none
returns-clause-none g c = tt
