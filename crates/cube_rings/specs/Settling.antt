-- The receipts of the feeders' links, held against what the builders received (this project's choice).
use Rattle.std.specs.Prelude.{◌≡◌, ◌<◌, ℕ, Bool, true, false, List, [], ◌++◌, length, map, slice_index_or, Option}
use Rattle.std.specs.Prelude.{None, IfSome}
use Rattle.std.specs.List.{All}
use Rattle.cube_core.specs.declared.change.Item.{Item}
use Rattle.cube_rings.specs.Link.{Sending, Receiving}
use Rattle.cube_rings.specs.Parcels.{parcels_of}
use Rattle.cube_rings.specs.declared.fault.FeedingFault.{FeedingFault}
use Rattle.cube_rings.specs.declared.fault.FeedingFault.TheVariants as feeding_fault
use Rattle.cube_rings.specs.Ends.{HasNoStop, IsFirstStop, IsSealed, IsFirstUnsealed}
use Rattle.cube_rings.specs.declared.parcel.Parcel.{Parcel}
use Rattle.cube_rings.specs.declared.parcel.FeederEnd.{FeederEnd}
use Rattle.cube_rings.specs.declared.gatherer.Gatherer.{Gatherer}

-- a link, and what was received from it
abbrev pub received_on : Receiving Parcel → Sending Parcel
received_on inlet = record { link = inlet.link; sent = inlet.received }

-- the links of a builder, and what was received from each
abbrev pub received_by : {B : Type 0} → Gatherer B → List (Sending Parcel)
received_by gatherer = map received_on gatherer.inlets.items

-- what of a builder stays while receipts are held against its links
pub record Kept (B : Type 0) : Type 0 where
  pub builder : B
  pub wanting : Bool
  pub received : List (Sending Parcel)

abbrev pub kept_of : {B : Type 0} → Gatherer B → Kept B
kept_of gatherer = record { builder = gatherer.builder; wanting = gatherer.wanting; received = received_by gatherer }

-- the receipt that an end has of the link to a builder, counted from 0
abbrev pub receipt_of : FeederEnd → ℕ → Option (Sending Parcel)
receipt_of end builder = slice_index_or end.receipts builder None

-- the receipt is that of the link
abbrev pub IsOfLink : Sending Parcel → Sending Parcel → Type 0
IsOfLink received receipt = receipt.link ≡ received.link

-- what was received is how what the receipt names begins
abbrev pub Begins : Sending Parcel → Sending Parcel → Type 0
Begins received receipt = (rest : List Parcel) × (received.sent ++ rest ≡ receipt.sent)

-- there is an end for each link of a builder, and the receipt that it has for this builder is that of the link
pub record FitLinks (builder : ℕ) (ends : List FeederEnd) (received : List (Sending Parcel)) : Type 0 where
  pub all : length received ≡ length ends
  pub each : (k : ℕ) (e : FeederEnd) (d : Sending Parcel) → k < length ends
      → IfSome (receipt_of (slice_index_or ends k e) builder) (IsOfLink (slice_index_or received k d))

-- what was received from each link of a builder is how what its receipt names begins
abbrev pub BeginReceipts : ℕ → List FeederEnd → List (Sending Parcel) → Type 0
BeginReceipts builder ends received =
    (k : ℕ) (e : FeederEnd) (d : Sending Parcel) → k < length ends
    → IfSome (receipt_of (slice_index_or ends k e) builder) (Begins (slice_index_or received k d))

-- the same of all builders, each with what was received from its links
abbrev pub AllFitLinks : List FeederEnd → List (List (Sending Parcel)) → Type 0
AllFitLinks ends received = (j : ℕ) → j < length received → FitLinks j ends (slice_index_or received j [])

-- and what was received from each link of every builder is how what its receipt names begins
abbrev pub AllBegin : List FeederEnd → List (List (Sending Parcel)) → Type 0
AllBegin ends received = (j : ℕ) → j < length received → BeginReceipts j ends (slice_index_or received j [])

-- where the receipt names a line for each of some items and then the end, and such an end was received, the link is
-- drained: what was received is all that the receipt names
abbrev pub IsDrainedBy : Sending Parcel → Sending Parcel → Type 0
IsDrainedBy received receipt =
    (came sent : List Item) → received.sent ≡ parcels_of came → receipt.sent ≡ parcels_of sent
    → received.sent ≡ receipt.sent

-- each link of every builder that gave its end is drained, by its receipt
abbrev pub AllDrained : List FeederEnd → List (List (Sending Parcel)) → Type 0
AllDrained ends received =
    (j : ℕ) → j < length received → (k : ℕ) (e : FeederEnd) (d : Sending Parcel) → k < length ends
    → IfSome (receipt_of (slice_index_or ends k e) j) (IsDrainedBy (slice_index_or (slice_index_or received j []) k d))

-- no feeder stopped, no builder wanted memory, and every receipt was given;
-- what was received is how what they name begins, and all of it where the link gave its end
pub record SettlesBuilders {B : Type 0} (ends : List FeederEnd) (old new : List (Gatherer B)) : Type 0 where
  pub good : All HasNoStop ends
  pub enough : All (λ gatherer. gatherer.wanting ≡ false) old
  pub sealed : All (IsSealed (length old)) ends
  pub begin : AllBegin ends (map received_by old)
  pub drained : AllDrained ends (map received_by old)
  pub kept : map kept_of new ≡ map kept_of old

-- memory ran out for one of these builders
pub record IsOneWanting {B : Type 0} (gatherers : List (Gatherer B)) : Type 0 where
  pub place : ℕ
  pub within : place < length gatherers
  pub is : (d : Gatherer B) → (slice_index_or gatherers place d).wanting ≡ true

-- why builders aren't settled: the lowest stop, else that memory ran out, else the lowest source without a receipt
abbrev pub StopsFeeding : ℕ → List FeederEnd → FeedingFault → Type 0
StopsFeeding builders ends feeding_fault.Memory = ⊥
StopsFeeding builders ends feeding_fault.NoThread = ⊥
StopsFeeding builders ends (feeding_fault.Feed source fault) = IsFirstStop ends source fault
StopsFeeding builders ends feeding_fault.Full = All HasNoStop ends
StopsFeeding builders ends (feeding_fault.Unsealed source) = All HasNoStop ends × IsFirstUnsealed builders ends source
