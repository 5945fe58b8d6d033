use Rattle.std.proofs.Common.{arith, ap, length, take, ◌≡◌, ◌<◌, []}
use Rattle.std.proofs.Math.ListN.{length-set}
use Rattle.std.proofs.lemmas.List.{get_or_default, take_all}
use Rattle.cube_values.specs.Bag.{AddsBag, size_of}
use Rattle.cube_cells.specs.Tally.{bag_at}
use Rattle.cube_cells.proofs.Tallies.MergeLaws.{AddsBags-more, size_of-AddsBags, AddsBags-bound, AddsBags-bound_set}
use Rattle.cube_cells.proofs.cell.merge_measures.Goals as goal

pub merge-requires : goal.merge-requires
merge-requires g c =
    let there : c.loop-place.place < length c.args.more.now = omega arith in
    let inside : c.loop-place.place < length c.loop-place.measures = omega arith in
    omega (
      arith,
      c.requires.fits c.loop-place.place,
      size_of-AddsBags c.args.measures.now c.loop-place.measures c.args.more.now c.loop-place.place
          c.loop-place.invariant,
      ap size_of (get_or_default c.loop-place.measures c.loop-place.place [] c.index-measures-place.result inside),
      ap size_of c.index-more-place.is,
      ap size_of (get_or_default c.args.more.now c.loop-place.place [] c.index-more-place.result there),
    )

pub returns-in_err-merge-clause-sizes : goal.returns-in_err-merge-clause-sizes
returns-in_err-merge-clause-sizes g c =
    let inside : c.loop-place.place < length c.loop-place.measures = omega arith in
    AddsBags-bound_set c.args.measures.now c.loop-place.measures c.args.more.now c.loop-place.place c.merge.new.self
    c.loop-place.invariant inside c.in_err-merge.ensures.err

pub loop-place-preserved : goal.loop-place-preserved
loop-place-preserved g c =
    let there : c.loop-place.place < length c.args.more.now = omega arith in
    let inside : c.loop-place.place < length c.loop-place.measures = omega arith in
    let added : AddsBag (bag_at c.loop-place.measures c.loop-place.place) c.merge.new.self
    (bag_at c.args.more.now c.loop-place.place) =
    rw (
      get_or_default c.loop-place.measures c.loop-place.place [] c.index-measures-place.result inside,
      get_or_default c.args.more.now c.loop-place.place [] c.index-more-place.result there,
      ← c.index-more-place.is,
    ) c.in_ok-merge.ensures.merged in
    AddsBags-more c.args.measures.now c.loop-place.measures c.args.more.now c.loop-place.place c.merge.new.self
    c.loop-place.invariant inside added

pub returns-clause-sizes : goal.returns-clause-sizes
returns-clause-sizes g c =
    AddsBags-bound c.args.measures.now c.loop-place.measures c.args.more.now c.loop-place.place c.loop-place.invariant

pub returns-clause-merged : goal.returns-clause-merged
returns-clause-merged g c =
    let place = c.loop-place.place in
    let all : take place c.args.more.now ≡ c.args.more.now = take_all place c.args.more.now (omega arith) in
    rw all at c.loop-place.invariant

pub returns-clause-width : goal.returns-clause-width
returns-clause-width g c = c.loop-place.invariant.same_length

pub returns-in_err-merge-clause-width : goal.returns-in_err-merge-clause-width
returns-in_err-merge-clause-width g c = simp length-set c.loop-place.invariant.same_length
