use Rattle.std.proofs.Common.{◌≡◌, ◌∷◌, []}
use Rattle.cube_rings.specs.Parcels.{sends}
use Rattle.cube_rings.specs.declared.parcel.Parcel.TheVariants.{End}
use Rattle.cube_rings.proofs.PlaceLaws.{first_mapped}
use Rattle.cube_rings.proofs.offering.offer_end.Given as goal

abbrev pub invariant-loop-outlet : goal.invariant-loop-outlet
invariant-loop-outlet g l =
    (l.builder ≡ l.outlet-index) × (l.outlets ≡ first_mapped (sends (End ∷ [])) l.outlet-index l.initial.outlets)
