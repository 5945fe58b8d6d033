use Rattle.cube_laws.proofs.NamedLaws.{items_of-alike}
use Rattle.cube_laws.proofs.named.only_columns_that_are_read_count.Goals as goal

pub returns : goal.returns
returns c = λ s columns header other records others some once other_once alike.
    items_of-alike s columns header other records others some once other_once alike
