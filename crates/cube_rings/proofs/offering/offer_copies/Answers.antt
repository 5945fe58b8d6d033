use Rattle.std.proofs.Common.{arith, ap, ◌∙◌, ◌≡◌, ◌+◌, ◌∷◌, [], length}
use Rattle.cube_rings.specs.Parcels.{sends}
use Rattle.cube_rings.specs.declared.parcel.Parcel.TheVariants.{Line}
use Rattle.cube_rings.proofs.PlaceLaws.{first_mapped, first_mapped-set, first_mapped-all, length-first_mapped}
use Rattle.cube_rings.proofs.PlaceLaws.{All-append_front, All-append_last}
use Rattle.cube_rings.proofs.offering.offer_copies.Goals as goal

pub loop-copy-preserved : goal.loop-copy-preserved
loop-copy-preserved g c =
    let loop = c.loop-copy in
    let copies = rw c.in-Some.ensures.items at loop.invariant.1 in
    let this = All-append_last (λ copy. copy ≡ c.args.item) c.pop.new.self.items c.in-Some.copy copies in
    let next = first_mapped-set (sends (Line c.args.item ∷ [])) loop.builder c.args.outlets.now loop.outlets
    c.offer_item.new.outlets loop.invariant.2 (omega (arith, loop.invariant.0))
    (λ d. rw this at (c.offer_item.ensures d)) in (
      omega (
        arith,
        loop.invariant.0,
        c.in-Some.ensures.len,
        ap length next,
        length-first_mapped (sends (Line c.args.item ∷ [])) (loop.builder + 1) c.args.outlets.now,
        ap length loop.invariant.2,
        length-first_mapped (sends (Line c.args.item ∷ [])) loop.builder c.args.outlets.now,
      ),
      All-append_front c.pop.new.self.items (c.in-Some.copy ∷ []) (λ copy. copy ≡ c.args.item) copies,
      next,
    )

pub returns : goal.returns
returns g c =
    let loop = c.loop-copy in
    let f = sends (Line c.args.item ∷ []) in
    let before : loop.outlets ≡ first_mapped f loop.builder c.args.outlets.now = loop.invariant.2 in
    let last : loop.builder + 1 ≡ length loop.outlets = omega (arith, loop.invariant.0, c.in_default.ensures.cases.0) in
    let same : length loop.outlets ≡ length c.args.outlets.now =
    ap length before ∙ length-first_mapped f loop.builder c.args.outlets.now in
    first_mapped-set f loop.builder c.args.outlets.now loop.outlets c.offer_item-2.new.outlets before
    (omega (arith, last)) c.offer_item-2.ensures
    ∙ first_mapped-all f (loop.builder + 1) c.args.outlets.now (last ∙ same)
