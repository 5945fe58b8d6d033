use Rattle.std.proofs.Common.{rules, arith, ap, ◌∙◌, ◌≡◌, ◌<◌, get_or, length, length-set, false}
use Rattle.cube_rings.specs.declared.gathering.Taken.{Taken}
use Rattle.cube_rings.proofs.GatherLaws.{gathering-look}
use Rattle.cube_rings.proofs.gathering.look_round.Goals as goal
use Rattle.cube_rings.proofs.gathering.look_round.Goals.{then-not-taken-i, else-not-taken-i}

pub loop-i-preserved : goal.loop-i-preserved
loop-i-preserved g c =
    elim c.if-not-taken-i.branch [
      | then-not-taken-i w ↦
          let loop = c.loop-i in
          let below : loop.i < length loop.inlets = omega arith in
          let within : loop.i < length loop.taken = omega (arith, loop.invariant.places) in
          let nothing : Taken = record { parcels = 0; ended = false } in
          let running : (get_or loop.taken loop.i nothing).ended ≡ false = search rules in record {
            sources = search rules;
            places =
                ap length w.taken-is ∙ length-set loop.taken loop.i w.visit-found.new.taken ∙ loop.invariant.places;
            gathering = λ first start was.
                rw (w.inlets-is, w.taken-is, w.builder-is, w.wanting-is)
                (gathering-look g.B.TakesItems.stands first start loop.inlets loop.taken loop.builder
                w.visit-found.new.builder loop.wanting w.visit-found.new.wanting loop.i w.index-inlets-i.result
                w.visit-found.new.inlet nothing w.visit-found.new.taken below within running w.visit-found.ensures.looks
                (loop.invariant.gathering first start was));
          }
      | else-not-taken-i w ↦ search rules
    ]
