use Rattle.std.proofs.Common.{arith, ap, length, refl, take, ◌≡◌, ◌<◌, []}
use Rattle.std.proofs.lemmas.List.{get_or_default, take_all}
use Rattle.cube_values.specs.Bag.{size_of}
use Rattle.cube_cells.specs.Tally.{AddsValue, bag_at, value_at}
use Rattle.cube_cells.proofs.Tallies.ValueLaws.{AddsValues-more, size_of-AddsValues}
use Rattle.cube_cells.proofs.cell.gather_values.Goals as goal

pub plus-requires : goal.plus-requires
plus-requires g c =
    let inside : c.loop-place.place < length c.loop-place.measures = omega arith in
    let there : c.loop-place.place < length c.args.measures.now = omega arith in
    omega (
      arith,
      c.requires.fits c.loop-place.place [] there,
      size_of-AddsValues c.args.measures.now c.loop-place.measures c.args.values.now c.loop-place.place
          c.loop-place.invariant,
      ap size_of (get_or_default c.loop-place.measures c.loop-place.place [] c.index-measures-place.result inside),
    )

pub loop-place-preserved : goal.loop-place-preserved
loop-place-preserved g c =
    let inside : c.loop-place.place < length c.loop-place.measures = omega arith in
    let added : AddsValue (bag_at c.loop-place.measures c.loop-place.place) c.plus.new.self
    (value_at c.args.values.now c.loop-place.place) =
    rw (get_or_default c.loop-place.measures c.loop-place.place [] c.index-measures-place.result inside)
    c.in-Ok.ensures.added in
    AddsValues-more c.args.measures.now c.loop-place.measures c.args.values.now c.loop-place.place c.plus.new.self
    c.loop-place.invariant inside added

pub loop-place-init : goal.loop-place-init
loop-place-init g c = record { same_length = refl; each = λ m. record { held = λ x. omega arith } }

pub returns : goal.returns
returns g c =
    let place = c.loop-place.place in
    let all : take place c.args.values.now ≡ c.args.values.now = take_all place c.args.values.now (omega arith) in
    record { added = rw all at c.loop-place.invariant; within = tt; some = tt }
