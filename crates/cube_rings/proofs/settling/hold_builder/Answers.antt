use Rattle.std.proofs.Common.{arith, ◌≡◌, ◌<◌, sym, ap, ◌∙◌, length}
use Rattle.std.proofs.lemmas.List.{length-map}
use Rattle.cube_rings.specs.Settling.{received_on}
use Rattle.cube_rings.proofs.SettleLaws.{fits-at, held-more, length-held}
use Rattle.cube_rings.proofs.settling.hold_builder.Goals as goal

pub index_mut-requires-in-loop-source : goal.index_mut-requires-in-loop-source
index_mut-requires-in-loop-source c =
    let loop = c.loop-source in
    let held = loop.invariant in
    let links = length-held loop.source c.args.builder c.args.ends.now.items loop.ends.items c.args.inlets.now.items
    loop.inlets.items held in
    let wide : length c.args.inlets.now.items ≡ length c.args.ends.now.items =
    sym (length-map c.args.inlets.now.items received_on) ∙ c.requires.fit.all in
    omega (arith, links, wide, c.args.ends.now.ok.0, loop.inlets.ok.0)

pub hold-requires-clause-fits : goal.hold-requires-clause-fits
hold-requires-clause-fits c =
    let loop = c.loop-source in
    let held = loop.invariant in
    let ends : length loop.ends.items ≡ length c.args.ends.now.items = ap length held.ends in
    let below : loop.source < length loop.ends.items = omega (arith, ends, c.args.ends.now.ok.0) in
    fits-at c.args.builder c.args.ends.now.items loop.ends.items c.args.inlets.now.items loop.inlets.items loop.source
    c.index_mut.result.now c.index_mut-in-loop-source.result.now held.ends held.received
    c.requires.fit below c.index_mut.ensures.value c.index_mut-in-loop-source.ensures.value

pub loop-source-preserved : goal.loop-source-preserved
loop-source-preserved c =
    let loop = c.loop-source in
    let held = loop.invariant in
    let ends : length loop.ends.items ≡ length c.args.ends.now.items = ap length held.ends in
    let links = length-held loop.source c.args.builder c.args.ends.now.items loop.ends.items c.args.inlets.now.items
    loop.inlets.items held in
    let wide : length c.args.inlets.now.items ≡ length c.args.ends.now.items =
    sym (length-map c.args.inlets.now.items received_on) ∙ c.requires.fit.all in
    let below : loop.source < length loop.ends.items = omega (arith, ends, c.args.ends.now.ok.0) in
    let short : loop.source < length loop.inlets.items = omega (arith, below, ends, links, wide) in
    held-more loop.source c.args.builder c.args.ends.now.items loop.ends.items c.args.inlets.now.items loop.inlets.items
    c.index_mut.result.now c.hold.new.end c.index_mut-in-loop-source.result.now
    c.hold.new.inlet held below short c.index_mut.ensures.value c.index_mut-in-loop-source.ensures.value
    c.hold.ensures.end c.hold.ensures.received c.hold.ensures.begins
