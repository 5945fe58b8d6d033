use Rattle.std.proofs.Common.{refl}
use Rattle.cube_cells.proofs.Tallies.ValueLaws.{AreWithin-SameBags}
use Rattle.cube_cells.proofs.cell.Cell.copy.Goals as goal

pub invariant_of-result : goal.invariant_of-result
invariant_of-result g c =
    let same = rw c.deref.ensures.value at c.in_ok-copies.ensures in
    AreWithin-SameBags c.self.inside.facts c.self.inside.measures.items c.in_ok-copies.field-0.items same
    c.self.invariant

pub returns : goal.returns
returns g c =
    let same = rw c.deref.ensures.value at c.in_ok-copies.ensures in
    rw (← c.self.view_is) (record { facts = refl; bags = same })
