use Rattle.cube_laws.proofs.ShardLaws.{items_of-part, items_of-end}
use Rattle.cube_laws.proofs.shards.shards_part_items.Goals as goal

pub returns : goal.returns
returns c =
    record { items = λ s count place records whole. items_of-part s count place whole records; ends = items_of-end }
