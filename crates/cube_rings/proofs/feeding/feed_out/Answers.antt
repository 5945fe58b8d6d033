use Rattle.std.proofs.Common.{◌≡◌, List, length, arith, subst, ap}
use Rattle.std.proofs.lemmas.List.{length-map}
use Rattle.cube_rings.specs.Link.{Sending}
use Rattle.cube_rings.specs.Parcels.{parcels_of, sends}
use Rattle.cube_rings.specs.Feeding.{AreReceipts}
use Rattle.cube_rings.specs.declared.parcel.Parcel.{Parcel}
use Rattle.cube_rings.proofs.SendLaws.{feeds-sends_all}
use Rattle.cube_rings.proofs.PlaceLaws.{take-written_back}
use Rattle.cube_rings.proofs.feeding.feed_out.Goals as goal

pub returns : goal.returns
returns g c =
    let sent = c.send_all-stop in
    let all = sent.ensures in
    let same : length sent.new.outlets ≡ c.args.outlets.len =
    omega (
      arith,
      ap length all.sent,
      length-map c.as_mut_slice.result.now (sends (parcels_of all.items)),
      c.as_mut_slice.ensures.len,
    ) in
    let receipts = subst (λ (xs : List (Sending Parcel)). AreReceipts xs c.finish_all.result)
    (take-written_back sent.new.outlets _ c.args.outlets.len same) c.finish_all.ensures in
    feeds-sends_all c.args.feed.to_come c.args.outlets.items sent.new.outlets _
    (rw c.as_mut_slice.ensures.value at all) receipts
