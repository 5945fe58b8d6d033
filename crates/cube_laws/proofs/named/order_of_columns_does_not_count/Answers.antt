use Rattle.cube_laws.proofs.NamedLaws.{items_of-moved}
use Rattle.cube_laws.proofs.named.order_of_columns_does_not_count.Goals as goal

pub returns : goal.returns
returns c = items_of-moved
