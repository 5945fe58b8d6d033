-- What a builder gathers from the links of its sources.
use Rattle.std.specs.Prelude.{◌≡◌, ◌+◌, ◌<◌, ℕ, Bool, true, false, List, [], ◌++◌, length, map, slice_index_or}
use Rattle.cube_core.specs.declared.change.Item.{Item}
use Rattle.cube_rings.specs.Link.{Receiving}
use Rattle.cube_core.specs.Arrival.{Arrivals, of_source, of_sources}
use Rattle.cube_rings.specs.Parcels.{lines_of, parcels_of}
use Rattle.cube_rings.specs.declared.gathering.Taken.{Taken}
use Rattle.cube_rings.specs.declared.parcel.Parcel.{Parcel}

-- nothing was received from any of the links
abbrev pub AreFresh : List (Receiving Parcel) → Type 0
AreFresh inlets = (i : ℕ) (d : Receiving Parcel) → i < length inlets → (slice_index_or inlets i d).received ≡ []

-- the builder stands at the first of these arrivals, and at all of them where memory was never wanting
pub record StandsAtFirst {B : Type 0} (stands : B → Arrivals → Type 0) (builder : B) (wanting : Bool)
    (arrivals : Arrivals) : Type 0 where
  pub first : Arrivals
  pub rest : Arrivals
  pub split : arrivals ≡ first ++ rest
  pub stands_at : stands builder first
  pub at_all : wanting ≡ false → rest ≡ []

-- items as they arrive from a source
abbrev pub from : ℕ → List Item → Arrivals
from source items = map (λ item. (source, item)) items

-- the parcels taken from a link by which these items came: without its end, and with it
abbrev pub taken_of : Bool → List Item → List Parcel
taken_of false items = lines_of items
taken_of true items = parcels_of items

-- what one look at a link changes: some items came, perhaps the end, and the builder stands where they lead it
pub record Looks {B : Type 0} (stands : B → B → Arrivals → Type 0) (source : ℕ) (old new : Receiving Parcel)
    (ended : Bool) (before after : B) (wanting wanting' : Bool) : Type 0 where
  pub items : List Item
  pub link : new.link ≡ old.link
  pub received : new.received ≡ old.received ++ taken_of ended items
  pub stands_on : (first : B) (arrivals : Arrivals) → StandsAtFirst (stands first) before wanting arrivals
      → StandsAtFirst (stands first) after wanting' (arrivals ++ from source items)

-- which of the links have ended, by what was taken from each
abbrev pub links_ended : List Taken → List Bool
links_ended taken = map (λ link. link.ended) taken

-- while a builder gathers: some of the links have ended, each has given the lines of its source's arrivals,
-- and the builder stands at these
pub record Gathering {B : Type 0} (stands : B → Arrivals → Type 0) (old now : List (Receiving Parcel))
    (ended : List Bool) (builder : B) (wanting : Bool) : Type 0 where
  pub arrivals : Arrivals
  pub same_length : length now ≡ length old
  pub links : (i : ℕ) (d : Receiving Parcel) → i < length old
      → (slice_index_or now i d).link ≡ (slice_index_or old i d).link
  pub received : (i : ℕ) (d : Receiving Parcel) → i < length old
      → (slice_index_or now i d).received ≡ taken_of (slice_index_or ended i false) (of_source arrivals (i + 1))
  pub stands_at : StandsAtFirst stands builder wanting arrivals

-- what a builder has gathered: each link has given the lines of its source's arrivals and then its end,
-- and the builder stands at these
pub record Gathers {B : Type 0} (stands : B → Arrivals → Type 0) (old new : List (Receiving Parcel)) (builder : B)
    (wanting : Bool) : Type 0 where
  pub arrivals : Arrivals
  pub links : map (λ inlet. inlet.link) new ≡ map (λ inlet. inlet.link) old
  pub received : map (λ inlet. inlet.received) new ≡ map parcels_of (of_sources (length old) arrivals)
  pub stands_at : StandsAtFirst stands builder wanting arrivals
