use Rattle.std.proofs.Common.{refl, ap, ◌∙◌, ◌∷◌, [], length}
use Rattle.std.proofs.lemmas.List.{length-map}
use Rattle.cube_rings.specs.Parcels.{sends}
use Rattle.cube_rings.specs.declared.parcel.Parcel.TheVariants.{Line}
use Rattle.cube_rings.proofs.SendLaws.{has_sent-none, has_sent-more, sends_all-end, sends_all-fault}
use Rattle.cube_rings.proofs.feeding.send_all.Goals as goal
use Rattle.cube_rings.proofs.feeding.send_all.Goals.{in-Ok-None, in-Err}

pub loop-init : goal.loop-init
loop-init g c = (refl, has_sent-none c.args.feed.now.to_come c.args.outlets.now)

pub loop-preserved : goal.loop-preserved
loop-preserved g c =
    let loop = c.loop in
    let item = c.in-Ok-Some.item in
    let sent = rw c.next_copies.ensures.outlets at c.offer_copies.ensures in (
      ap length sent ∙ length-map loop.outlets (sends (Line item ∷ [])) ∙ loop.invariant.0,
      has_sent-more c.args.feed.now.to_come loop.feed.to_come c.next_copies.new.feed.to_come c.args.outlets.now
          loop.outlets c.offer_copies.new.outlets item loop.invariant.1
          (rw c.in-Ok-Some.field-0-is at c.in-Ok-Some.ensures.gives) sent,
    )

pub returns-in-loop : goal.returns-in-loop
returns-in-loop g c =
    let loop = c.loop in
    elim c.match-next_copies.branch [
      | in-Ok-None w ↦
          rw w.stop-is
          (sends_all-end c.args.feed.now.to_come loop.feed.to_come c.next_copies.new.feed.to_come c.args.outlets.now
          loop.outlets c.offer_end.new.outlets loop.invariant.1
          (rw w.in-Ok-None.field-0-is at w.in-Ok-None.ensures.gives) (rw c.next_copies.ensures.outlets at c.offer_end.ensures))
      | in-Err w ↦
          rw w.stop-is
          (sends_all-fault c.args.feed.now.to_come loop.feed.to_come c.next_copies.new.feed.to_come c.args.outlets.now
          loop.outlets c.offer_end.new.outlets w.in-Err.fault loop.invariant.1
          w.in-Err.ensures.gives (rw c.next_copies.ensures.outlets at c.offer_end.ensures))
    ]
