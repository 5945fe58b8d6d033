use Rattle.cube_laws.proofs.AskedLaws.{matches-any}
use Rattle.cube_laws.proofs.queries.any_parts_by_the_coordinate.Goals as goal

pub returns : goal.returns
returns c = matches-any
