use Rattle.std.proofs.Common.{◌≡◌, ◌+◌, ◌∷◌, [], length, vec_len}
use Rattle.std.specs.List.{All}
use Rattle.cube_rings.specs.Parcels.{sends}
use Rattle.cube_rings.specs.declared.parcel.Parcel.TheVariants.{Line}
use Rattle.cube_rings.proofs.PlaceLaws.{first_mapped}
use Rattle.cube_rings.proofs.offering.offer_copies.Given as goal

abbrev pub invariant-loop-copy : goal.invariant-loop-copy
invariant-loop-copy g l =
    (vec_len l.copies + l.builder + 1 ≡ length l.outlets)
    × All (λ copy. copy ≡ l.item) l.copies.items
    × (l.outlets ≡ first_mapped (sends (Line l.item ∷ [])) l.builder l.initial.outlets)

abbrev pub decreases-loop-copy : goal.decreases-loop-copy
decreases-loop-copy g l = vec_len l.copies
