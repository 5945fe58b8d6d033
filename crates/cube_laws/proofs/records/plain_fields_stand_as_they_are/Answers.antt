use Rattle.cube_laws.proofs.PlainLaws.{line-plain, line-empty}
use Rattle.cube_laws.proofs.records.plain_fields_stand_as_they_are.Goals as goal

pub returns : goal.returns
returns c = record { plain = line-plain; empty = line-empty }
