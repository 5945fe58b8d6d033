use Rattle.std.proofs.Common.{refl, ◌∙◌, false}
use Rattle.cube_rings.specs.Gathering.{links_ended}
use Rattle.cube_rings.proofs.GatherLaws.{gathering-start, gathers-all}
use Rattle.cube_rings.proofs.gathering.gather.Goals as goal
use Rattle.cube_rings.proofs.gathering.gather.Goals.{then-wanting, else-wanting}

pub loop-init : goal.loop-init
loop-init g c = (
  refl,
  gathering-start (g.B.TakesItems.stands c.args.builder.now) c.args.inlets.now (record { parcels = 0; ended = false })
      c.args.builder.now refl c.requires.most c.requires.fresh c.requires.stands,
)

pub returns-then-have_ended-clause-gathers : goal.returns-then-have_ended-clause-gathers
returns-then-have_ended-clause-gathers g c =
    let loop = c.loop in
    let all = gathers-all (g.B.TakesItems.stands c.args.builder.now) c.args.inlets.now loop.inlets
    (links_ended loop.taken) loop.builder loop.wanting (c.if-have_ended.ensures refl) loop.invariant.1 in
    elim c.if-wanting.branch [
      | then-wanting w ↦ rw w.result-is (rw w.if-wanting.true at all)
      | else-wanting w ↦ rw w.result-is (rw w.if-wanting.false at all)
    ]

pub loop-preserved : goal.loop-preserved
loop-preserved g c = (
  c.look_round.ensures.sources ∙ c.loop.invariant.0,
  c.look_round.ensures.gathering c.args.builder.now c.args.inlets.now c.loop.invariant.1,
)

pub loop-preserved-then-look_round : goal.loop-preserved-then-look_round
loop-preserved-then-look_round g c = (
  c.look_round.ensures.sources ∙ c.loop.invariant.0,
  c.look_round.ensures.gathering c.args.builder.now c.args.inlets.now c.loop.invariant.1,
)
