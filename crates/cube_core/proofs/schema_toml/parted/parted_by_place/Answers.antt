use Rattle.std.proofs.Common.{◌≡◌, ◌+◌, ◌∷◌, [], length, rules}
use Rattle.std.proofs.lemmas.List.{nil_from_length}
use Rattle.cube_core.specs.GroupingSet.{is_among}
use Rattle.cube_core.proofs.TextPlaceLaws.{IsParted-put, IsParted-over}
use Rattle.cube_core.proofs.schema_toml.parted.parted_by_place.Goals as goal

pub loop-item-preserved : goal.loop-item-preserved
loop-item-preserved g c =
    let loop = c.loop-item in
    let left : loop.item-iterator.rest.items ≡ c.in-Some.item ∷ c.next.new.self.rest.items = search rules in
    let is : c.is_among-is_at.result ≡ is_among (length loop.beside.items + length loop.at.items) c.args.places.now =
    search rules in
    rw (c.in_ok-put.ensures.beside, c.in_ok-put.ensures.at) (IsParted-put c.args.places.now c.args.items.items
    c.next.new.self.rest.items loop.beside.items loop.at.items c.in-Some.item c.is_among-is_at.result
    (rw left at loop.invariant) is)

pub returns : goal.returns
returns g c =
    let loop = c.loop-item in
    let over : loop.item-iterator.rest.items ≡ [] =
    nil_from_length loop.item-iterator.rest.items (search rules) in
    let (beside, at) = IsParted-over c.args.places.now c.args.items.items loop.beside.items loop.at.items
    (rw over at loop.invariant) in
    record { beside = beside; at = at }
