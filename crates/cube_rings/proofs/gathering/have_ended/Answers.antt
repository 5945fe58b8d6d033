use Rattle.std.proofs.Common.{arith, ◌≡◌, ◌∙◌, get_or, true, false}
use Rattle.std.proofs.lemmas.List.{get_or-map}
use Rattle.cube_rings.specs.Gathering.{links_ended}
use Rattle.cube_rings.specs.declared.gathering.Taken.{Taken}
use Rattle.cube_rings.proofs.gathering.have_ended.Goals as goal

pub loop-i-preserved : goal.loop-i-preserved
loop-i-preserved c =
    let i = c.loop-i.i in
    let nothing : Taken = record { parcels = 0; ended = false } in
    let here : get_or (links_ended c.args.taken.now) i false ≡ true =
    get_or-map (λ (t : Taken). t.ended) c.args.taken.now i nothing false (omega arith) ∙ c.if-not-taken-i.false in
    λ k below. grind (arith, here, c.loop-i.invariant k)
