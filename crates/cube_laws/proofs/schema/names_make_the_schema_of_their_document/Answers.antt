use Rattle.cube_laws.proofs.GroupingLaws.{GivesNames-schema_of}
use Rattle.cube_laws.proofs.schema.names_make_the_schema_of_their_document.Goals as goal

pub returns : goal.returns
returns c = GivesNames-schema_of
