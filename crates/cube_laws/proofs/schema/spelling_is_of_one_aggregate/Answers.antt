use Rattle.cube_laws.proofs.WrittenLaws.{aggregate_spelled-counted}
use Rattle.cube_laws.proofs.schema.spelling_is_of_one_aggregate.Goals as goal

pub returns : goal.returns
returns c s agg is = aggregate_spelled-counted s agg is
