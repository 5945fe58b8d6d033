use Rattle.cube_laws.proofs.NamedLaws.{columns_of_feed-empty}
use Rattle.cube_laws.proofs.named.empty_table_takes_the_names_of_the_schema.Goals as goal

pub returns : goal.returns
returns c = columns_of_feed-empty
