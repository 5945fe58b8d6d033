use Rattle.std.proofs.Common.{◌++◌, List}
use Rattle.std.specs.Option.{option_to_list}
use Rattle.std.specs.Vec.Iter.{into_iter_items}
use Rattle.cube_core.specs.declared.change.Item.{Item}
use Rattle.cube_rings.specs.Lots.{unpacked, all_but}
use Rattle.cube_rings.specs.Parcels.{lines_of}
use Rattle.cube_rings.specs.declared.parcel.Parcel.{Parcel}
use Rattle.cube_rings.proofs.LotLaws.{EndsIn-known, whole-front, line-taken, none-taken}
use Rattle.cube_rings.proofs.lots.LotInlet.next_line.Goals as goal

pub invariant_of-self : goal.invariant_of-self
invariant_of-self c =
    let whole : List Parcel = unpacked c.self.inside.inlet.received in
    let first : List Item = option_to_list c.next.result in
    let rest : List Item = into_iter_items c.next.new.self in
    EndsIn-known whole (all_but (lines_of (first ++ rest)) whole ++ lines_of first) (lines_of rest)
    (whole-front whole first rest (rw c.next.ensures.items at c.self.invariant))

pub returns-clause-received : goal.returns-clause-received
returns-clause-received c =
    rw (← c.self.view_is)
    (line-taken (unpacked c.self.inside.inlet.received) (into_iter_items c.self.inside.lot) c.next.result
    (into_iter_items c.next.new.self) c.next.ensures.items c.self.invariant)

pub returns-clause-none : goal.returns-clause-none
returns-clause-none c =
    rw (← c.self.view_is)
    (none-taken (unpacked c.self.inside.inlet.received) (into_iter_items c.self.inside.lot) c.next.result
    (into_iter_items c.next.new.self) c.next.ensures.items)
