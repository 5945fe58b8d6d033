use Rattle.cube_live.proofs.OpeningLaws.{OpensOver-made}
use Rattle.cube_live.proofs.opening.open_unsettled.Goals as goal

pub returns-clause-ok : goal.returns-clause-ok
returns-clause-ok g c = OpensOver-made c.finish.ensures.stands c.in_ok-opening.ensures.ok
