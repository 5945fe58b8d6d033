use Rattle.cube_laws.proofs.AskedLaws.{pattern_of-Writes}
use Rattle.cube_laws.proofs.queries.written_pattern_is_read.Goals as goal

pub returns : goal.returns
returns c = pattern_of-Writes
