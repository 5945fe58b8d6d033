use Rattle.std.proofs.Common.{rules, ap, refl, ◌∙◌, ◌<◌, ◌≡◌, length, []}
use Rattle.std.proofs.lemmas.List.{get_or_default}
use Rattle.cube_core.specs.Group.{values_of}
use Rattle.cube_values.specs.Bag.{size_of}
use Rattle.cube_cells.specs.Tally.{bag_at}
use Rattle.cube_cells.proofs.Tallies.TallyLaws.{size_of-IsBagOf}
use Rattle.cube_cells.proofs.cell.Cell.answer.Goals as goal

pub returns-in-Count : goal.returns-in-Count
returns-in-Count g c = λ facts is.
    let inside : c.in-Count.measure < length c.self.inside.measures.items = search rules in
    let tally = rw (← c.self.view_is) at is in
    let read : c.index.result.now ≡ bag_at c.self.inside.measures.items c.in-Count.measure =
    c.index.ensures ∙ get_or_default c.self.inside.measures.items c.in-Count.measure c.index.result.now [] inside in
    let many : c.count.result ≡ length (values_of c.in-Count.measure facts) =
    c.count.ensures ∙ ap size_of read ∙ size_of-IsBagOf (values_of c.in-Count.measure facts)
    (bag_at c.self.inside.measures.items c.in-Count.measure) (tally.bags c.in-Count.measure inside) in
    rw (c.in-Count.is, many) refl
