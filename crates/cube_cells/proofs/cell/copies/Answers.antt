use Rattle.std.proofs.Common.{◌<◌, arith, length, refl, take, []}
use Rattle.std.proofs.lemmas.List.{get_or_default, take_all, take_more}
use Rattle.cube_values.specs.Bag.{SameHeld}
use Rattle.cube_cells.specs.Tally.{bag_at}
use Rattle.cube_cells.proofs.Tallies.MergeLaws.{SameBags-push}
use Rattle.cube_cells.proofs.cell.copies.Goals as goal

pub loop-measure-init : goal.loop-measure-init
loop-measure-init g c =
    rw c.in_ok-copies.ensures.items (record { same_length = refl; bags = λ m. record { held = λ x. refl } })

pub loop-measure-preserved : goal.loop-measure-preserved
loop-measure-preserved g c =
    let bags = c.args.measures.now in
    let i = c.loop-measure.measure-index in
    let inside : i < length bags = omega (arith, c.loop-measure-test.true) in
    let here : SameHeld (bag_at bags i) c.in_ok-copy.field-0 =
    rw (← get_or_default bags i c.measure-item.result [] inside, ← c.measure-item.is) c.in_ok-copy.ensures in
    rw (c.in_ok-push.ensures.items, take_more bags i [] inside)
    (SameBags-push (take i bags) c.loop-measure.copies.items (bag_at bags i) c.in_ok-copy.field-0
    c.loop-measure.invariant here)

pub returns : goal.returns
returns g c = rw (take_all c.loop-measure.measure-index c.args.measures.now (omega arith)) at c.loop-measure.invariant
