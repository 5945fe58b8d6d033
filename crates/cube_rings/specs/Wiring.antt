-- How feeders and builders are linked.
use Rattle.std.specs.Prelude.{◌≡◌, ◌<◌, ◌≤◌, ℕ, List, [], ◌∷◌, ◌++◌, length, slice_index_or}
use Rattle.cube_rings.specs.Link.{Sending, Receiving}
use Rattle.cube_rings.specs.declared.parcel.Parcel.{Parcel}
use Rattle.cube_rings.specs.declared.gatherer.Gatherer.{Gatherer}

-- the builder got one link more, on which nothing was sent or received; its outlet is this
pub record Grows {B : Type 0} (old new : Gatherer B) (outlet : Sending Parcel) : Type 0 where
  pub inlet : Receiving Parcel
  pub inlets : new.inlets.items ≡ old.inlets.items ++ inlet ∷ []
  pub link : outlet.link ≡ inlet.link
  pub unreceived : inlet.received ≡ []
  pub unsent : outlet.sent ≡ []
  pub builder : new.builder ≡ old.builder

-- the first so many builders got one link more, each with one of the outlets, and the others stayed as they were
pub record ConnectsFirst {B : Type 0} (n : ℕ) (old new : List (Gatherer B)) (outlets : List (Sending Parcel))
    : Type 0 where
  pub same_length : length new ≡ length old
  pub width : length outlets ≡ n
  pub each : (j : ℕ) (d : Gatherer B) (o : Sending Parcel) → j < n → j < length old
      → Grows (slice_index_or old j d) (slice_index_or new j d) (slice_index_or outlets j o)
  pub others : (j : ℕ) (d : Gatherer B) → n ≤ j → slice_index_or new j d ≡ slice_index_or old j d

-- each builder got one link more
abbrev pub Connects : {B : Type 0} → List (Gatherer B) → List (Gatherer B) → List (Sending Parcel) → Type 0
Connects old new outlets = ConnectsFirst (length old) old new outlets

-- each source has a link of its own to each builder, on which nothing was sent or received;
-- outlet j of a source leads to builder j,
-- where its inlet stands at the source's place
pub record AreLinked {B : Type 0} (outlets : List (List (Sending Parcel))) (gatherers : List (Gatherer B))
    : Type 0 where
  pub widths : (s : ℕ) → s < length outlets → length (slice_index_or outlets s []) ≡ length gatherers
  pub heights : (j : ℕ) (d : Gatherer B) → j < length gatherers
      → length (slice_index_or gatherers j d).inlets.items ≡ length outlets
  pub links : (s j : ℕ) (d : Gatherer B) (o : Sending Parcel) (i : Receiving Parcel) → s < length outlets
      → j < length gatherers →
      (slice_index_or (slice_index_or outlets s []) j o).link
      ≡ (slice_index_or (slice_index_or gatherers j d).inlets.items s i).link
  pub unsent : (s j : ℕ) (o : Sending Parcel) → s < length outlets → j < length gatherers
      → (slice_index_or (slice_index_or outlets s []) j o).sent ≡ []
  pub unreceived : (s j : ℕ) (d : Gatherer B) (i : Receiving Parcel) → s < length outlets → j < length gatherers →
      (slice_index_or (slice_index_or gatherers j d).inlets.items s i).received ≡ []
