-- The parcels that are sent for the items of a feed (this project's choice).
use Rattle.std.specs.Prelude.{List, [], ◌∷◌, ◌++◌, map}
use Rattle.cube_core.specs.declared.change.Item.{Item}
use Rattle.cube_rings.specs.Link.{Sending}
use Rattle.cube_rings.specs.declared.parcel.Parcel.{Parcel}
use Rattle.cube_rings.specs.declared.parcel.Parcel.TheVariants.{Line, End}

-- a line for each item
abbrev pub lines_of : List Item → List Parcel
lines_of items = map Line items

-- the parcels of items: a line for each of them, and then the end
abbrev pub parcels_of : List Item → List Parcel
parcels_of items = lines_of items ++ End ∷ []

-- a link on which these parcels were sent after those before
abbrev pub sends : List Parcel → Sending Parcel → Sending Parcel
sends parcels sending = record { link = sending.link; sent = sending.sent ++ parcels }
