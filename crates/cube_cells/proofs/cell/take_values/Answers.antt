use Rattle.std.proofs.Common.{arith, ap, length, ◌<◌, []}
use Rattle.std.proofs.lemmas.List.{get_or_default}
use Rattle.cube_values.specs.Bag.{held_of}
use Rattle.cube_cells.specs.Tally.{AddsValue, bag_at, value_at}
use Rattle.cube_cells.proofs.Tallies.ValueLaws.{AddsValues-less, held_of-AddsValues}
use Rattle.cube_cells.proofs.cell.take_values.Goals as goal

pub minus-requires : goal.minus-requires
minus-requires c = λ x is.
    let inside : c.loop-place.place < length c.loop-place.measures = omega arith in
    omega (
      arith,
      c.requires.held c.loop-place.place x is,
      held_of-AddsValues c.args.measures.now c.loop-place.measures c.args.values.now c.loop-place.place x
          c.loop-place.invariant,
      ap (λ b. held_of b x)
          (get_or_default c.loop-place.measures c.loop-place.place [] c.index-measures-place.result inside),
    )

pub loop-place-preserved : goal.loop-place-preserved
loop-place-preserved c =
    let inside : c.loop-place.place < length c.loop-place.measures = omega arith in
    let taken : AddsValue c.minus.new.self (bag_at c.loop-place.measures c.loop-place.place)
    (value_at c.args.values.now c.loop-place.place) =
    rw (get_or_default c.loop-place.measures c.loop-place.place [] c.index-measures-place.result inside)
    c.minus.ensures in
    AddsValues-less c.args.measures.now c.loop-place.measures c.args.values.now c.loop-place.place c.minus.new.self
    c.loop-place.invariant inside taken
