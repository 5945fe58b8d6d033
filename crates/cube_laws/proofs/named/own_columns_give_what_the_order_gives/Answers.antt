use Rattle.cube_laws.proofs.NamedLaws.{items_of-own}
use Rattle.cube_laws.proofs.named.own_columns_give_what_the_order_gives.Goals as goal

pub returns : goal.returns
returns c = items_of-own
