use Rattle.std.proofs.Common.{arith, ◌<◌, sym, subst, List, map, length}
use Rattle.std.proofs.lemmas.List.{length-map}
use Rattle.cube_rings.specs.Link.{Sending}
use Rattle.cube_rings.specs.Settling.{received_by, FitLinks}
use Rattle.cube_rings.specs.declared.parcel.Parcel.{Parcel}
use Rattle.cube_rings.specs.declared.parcel.FeederEnd.{FeederEnd}
use Rattle.cube_rings.proofs.SettleLaws.{row-at, all_held-more, length-all_held}
use Rattle.cube_rings.proofs.settling.hold_all.Goals as goal

pub hold_builder-requires-clause-fit : goal.hold_builder-requires-clause-fit
hold_builder-requires-clause-fit g c =
    let loop = c.loop-builder in
    let held = loop.invariant in
    let all =
    length-all_held loop.builder c.args.ends.items loop.ends.items c.args.gatherers.items loop.gatherers.items held in
    let below : loop.builder < length loop.gatherers.items = omega (arith, all, c.args.gatherers.ok.0) in
    let inside : loop.builder < length (map received_by c.args.gatherers.items) =
    omega (arith, all, below, length-map c.args.gatherers.items received_by) in
    let row = row-at c.args.gatherers.items loop.gatherers.items loop.builder c.index_mut.result.now held.kept
    c.index_mut.ensures.value below in
    subst (λ (ends : List FeederEnd). FitLinks loop.builder ends (received_by c.index_mut.result.now)) (sym held.ends)
    (subst (λ (links : List (Sending Parcel)). FitLinks loop.builder c.args.ends.items links) row
    (c.requires.fit loop.builder inside))

pub loop-builder-preserved : goal.loop-builder-preserved
loop-builder-preserved g c =
    let loop = c.loop-builder in
    let held = loop.invariant in
    let all =
    length-all_held loop.builder c.args.ends.items loop.ends.items c.args.gatherers.items loop.gatherers.items held in
    let below : loop.builder < length loop.gatherers.items = omega (arith, all, c.args.gatherers.ok.0) in
    let was = c.index_mut.result.now in
    let same = c.hold_builder.ensures.received in
    all_held-more loop.builder c.args.ends.items loop.ends.items c.hold_builder.new.ends.items c.args.gatherers.items
    loop.gatherers.items was
    (record {
      builder = was.builder;
      place = was.place;
      inlets = c.hold_builder.new.inlets;
      wanting = was.wanting;
    }) held below c.index_mut.ensures.value c.hold_builder.ensures.ends
    (λ i. record { builder = was.builder; wanting = was.wanting; received = same i }) c.hold_builder.ensures.begin
