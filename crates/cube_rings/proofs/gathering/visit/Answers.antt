use Rattle.std.proofs.Common.{refl, ◌∙◌}
use Rattle.cube_rings.proofs.GatherLaws.{looks-nothing, looks-look}
use Rattle.cube_rings.proofs.gathering.visit.Goals as goal
use Rattle.cube_rings.proofs.gathering.visit.Goals.{then-taken-via-then-taken}
use Rattle.cube_rings.proofs.gathering.visit.Goals.{then-taken-via-else-taken+then-not-look}

pub loop-init : goal.loop-init
loop-init g c = (
  refl,
  looks-nothing g.B.TakesItems.stands c.args.link.now.source c.args.inlet.now c.args.taken.now.ended c.args.builder.now
      c.args.wanting.now c.requires.open,
)

pub returns-then-taken-clause-looks : goal.returns-then-taken-clause-looks
returns-then-taken-clause-looks g c =
    let loop = c.loop in
    elim c.then-taken.branch [
      | then-taken-via-then-taken w ↦ rw (w.builder-is, w.inlet-is, w.taken-is, w.wanting-is) loop.invariant.1
      | then-taken-via-else-taken+then-not-look w ↦
          rw (w.builder-is, w.inlet-is, w.taken-is, w.wanting-is)
          (looks-look g.B.TakesItems.stands c.args.link.now.source c.args.inlet.now loop.inlet w.look.new.inlet
          loop.taken.ended w.look.new.taken.ended c.args.builder.now loop.builder w.look.new.builder c.args.wanting.now
          loop.wanting w.look.new.wanting
          w.if-taken.false loop.invariant.1 w.look.ensures.looks)
    ]

pub loop-preserved : goal.loop-preserved
loop-preserved g c =
    let loop = c.loop in (
      c.look.ensures.sources ∙ loop.invariant.0,
      looks-look g.B.TakesItems.stands c.args.link.now.source c.args.inlet.now loop.inlet c.look.new.inlet
          loop.taken.ended c.look.new.taken.ended c.args.builder.now loop.builder c.look.new.builder c.args.wanting.now
          loop.wanting c.look.new.wanting
          c.if-taken.false loop.invariant.1 c.look.ensures.looks,
    )
