-- The lots in which parcels go over a link (this project's choice).
use Rattle.std.specs.Prelude.{◌≡◌, ◌-◌, List, [], ◌∷◌, ◌++◌, length, take, flat_map}
use Rattle.cube_rings.specs.Parcels.{lines_of}
use Rattle.cube_rings.specs.declared.lots.Lot.{Lot}
use Rattle.cube_rings.specs.declared.lots.Lot.TheVariants as lot
use Rattle.cube_rings.specs.declared.lots.Seen.{Seen}
use Rattle.cube_rings.specs.declared.lots.Seen.TheVariants as seen
use Rattle.cube_rings.specs.declared.parcel.Parcel.{Parcel}
use Rattle.cube_rings.specs.declared.parcel.Parcel.TheVariants as parcel

-- the parcels of a lot
abbrev pub parcels_in : Lot → List Parcel
parcels_in (lot.Lines lines) = lines_of lines.items
parcels_in lot.End = parcel.End ∷ []

-- the parcels of lots, one lot's after another's
abbrev pub unpacked : List Lot → List Parcel
unpacked lots = flat_map parcels_in lots

-- the parcels that were taken by what was seen of a link: the end alone is, and lines are to be taken
abbrev pub parcels_seen : Seen → List Parcel
parcels_seen seen.Nothing = []
parcels_seen seen.Lines = []
parcels_seen seen.End = parcel.End ∷ []

-- a list without as many of its last elements as another has
abbrev pub all_but : {X : Type 0} → List X → List X → List X
all_but last whole = take (length whole - length last) whole

-- a list ends in these elements
abbrev pub EndsIn : {X : Type 0} → List X → List X → Type 0
EndsIn last whole = whole ≡ all_but last whole ++ last
