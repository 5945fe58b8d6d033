use Rattle.std.proofs.Common.{rules, arith, ap, ◌∙◌, ◌≡◌, ◌∷◌, [], length, get_or}
use Rattle.cube_rings.specs.Parcels.{sends}
use Rattle.cube_rings.specs.declared.parcel.Parcel.TheVariants.{End}
use Rattle.cube_rings.proofs.PlaceLaws.{first_mapped-more, first_mapped-all, length-first_mapped}
use Rattle.cube_rings.proofs.offering.offer_end.Goals as goal

pub loop-outlet-preserved : goal.loop-outlet-preserved
loop-outlet-preserved g c =
    let loop = c.loop-outlet in
    let next : c.send_end.new.self
    ≡ sends (End ∷ []) (get_or loop.outlets loop.outlet-index c.outlet-item.result) =
    search (rules, c.send_end.ensures) in (
      search rules,
      first_mapped-more (sends (End ∷ [])) loop.outlet-index c.args.outlets.now loop.outlets c.outlet-item.result
          c.send_end.new.self loop.invariant.1 (omega arith) next,
    )

pub returns : goal.returns
returns g c =
    let loop = c.loop-outlet in
    let all : loop.outlet-index ≡ length c.args.outlets.now =
    omega (
      arith,
      ap length loop.invariant.1,
      length-first_mapped (sends (End ∷ [])) loop.outlet-index c.args.outlets.now,
    ) in
    loop.invariant.1 ∙ first_mapped-all (sends (End ∷ [])) loop.outlet-index c.args.outlets.now all
