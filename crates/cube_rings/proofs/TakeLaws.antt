-- What ends, receipts and builders say together of the feeds.
use Rattle.std.proofs.Common.{◌≡◌, ◌<◌, ◌+◌, ◌-◌, ℕ, zero, suc, false, List, [], ◌∷◌, ◌++◌, length, get_or, take, map}
use Rattle.std.proofs.Common.{refl, ap, subst, sym, ◌∙◌, arith, Option, Some, None, IfSome}
use Rattle.std.specs.Prelude.{IsSome}
use Rattle.std.specs.List.{All, AllZip, AllByRecursion}
use Rattle.std.proofs.lemmas.List.{ext_get_or, get_or-map, get_or-take, get_or_default, length-map, length-take}
use Rattle.std.proofs.lemmas.List.FromFn.{get_or-map-range_with_len, length-map-range_with_len}
use Rattle.cube_core.specs.Arrival.{Arrivals, of_source, of_sources}
use Rattle.cube_core.specs.FeedRecords.{RestOfFeed, feed_of}
use Rattle.cube_core.specs.Layout.{Layout}
use Rattle.cube_core.specs.Run.{SourceBytes, IsGood, AreItemsOf, AreGood}
use Rattle.cube_core.specs.declared.change.Item.{Item}
use Rattle.cube_feed.specs.Faults.{IsFaultOf, IsLowestFault}
use Rattle.cube_rings.specs.declared.fault.FeedingFault.{FeedingFault}
use Rattle.cube_rings.specs.declared.fault.FeedingFault.TheVariants as feeding_fault
use Rattle.cube_feed.specs.Feed.{KnownRest, rest_of_feed}
use Rattle.cube_feed.specs.declared.fault.FeedFault.{FeedFault}
use Rattle.cube_feed.specs.declared.fault.FeedFault.TheVariants.{Memory, Read, Header, TooMany, OpenQuote, LongRecord}
use Rattle.cube_rings.specs.Link.{Sending, Receiving}
use Rattle.cube_rings.specs.FeedingAll.{TakesFeeds, ExplainsFeeding, HasReceived}
use Rattle.cube_rings.specs.Ends.{HasNoStop, IsFirstStop, IsSealed}
use Rattle.cube_rings.specs.Feeding.{Stops}
use Rattle.cube_rings.specs.Starting.{HasGathered}
use Rattle.cube_rings.specs.Parcels.{parcels_of}
use Rattle.cube_rings.specs.Settling.{received_on, received_by, Kept, kept_of, receipt_of, Begins, AllFitLinks}
use Rattle.cube_rings.specs.Settling.{AllBegin, StopsFeeding}
use Rattle.cube_rings.specs.declared.parcel.Parcel.{Parcel}
use Rattle.cube_rings.specs.declared.parcel.FeederEnd.{FeederEnd}
use Rattle.cube_rings.specs.declared.gatherer.Gatherer.{Gatherer}
use Rattle.cube_rings.proofs.PlaceLaws.{some_of}
use Rattle.cube_feed.proofs.FaultLaws.{fault_of-None, fault_of-Header, fault_of-TooMany, fault_of-OpenQuote}
use Rattle.cube_feed.proofs.FaultLaws.{fault_of-LongRecord}

-- ---- lists place by place

pub all_zip-at : {A B : Type 0} (R : A → B → Type 0) (xs : List A) (ys : List B) (i : ℕ) (d : A) (e : B)
    → AllZip R xs ys → i < length xs → R (get_or xs i d) (get_or ys i e)
all_zip-at R [] ys i d e all below = absurd (omega arith)
all_zip-at R (x ∷ xs) [] i d e all below = absurd all
all_zip-at R (x ∷ xs) (y ∷ ys) zero d e all below = all.0
all_zip-at R (x ∷ xs) (y ∷ ys) (suc i) d e all below = all_zip-at R xs ys i d e all.1 (omega arith)

pub all_zip-each : {A B : Type 0} (R : A → B → Type 0) (xs : List A) (ys : List B) → length xs ≡ length ys
    → ((i : ℕ) (d : A) (e : B) → i < length xs → R (get_or xs i d) (get_or ys i e)) → AllZip R xs ys
all_zip-each R [] [] same each = tt
all_zip-each R [] (y ∷ ys) same each = absurd (omega (arith, same))
all_zip-each R (x ∷ xs) [] same each = absurd (omega (arith, same))
all_zip-each R (x ∷ xs) (y ∷ ys) same each = (
  each 0 x y (omega arith),
  all_zip-each R xs ys (omega (arith, same)) (λ i d e below. each (suc i) d e (omega arith)),
)

all-each : {A : Type 0} (P : A → Type 0) (xs : List A) (d : A) → ((i : ℕ) → i < length xs → P (get_or xs i d))
    → AllByRecursion P xs
all-each P [] d each = tt
all-each P (x ∷ xs) d each = (each 0 (omega arith), all-each P xs d (λ i below. each (suc i) (omega arith)))

-- ---- what a stop says of a feed

-- without a stop the feed is good, and its items were sent
stops-none : (s : Layout) (bytes : Option (List ℕ)) (items : List Item) → Stops (rest_of_feed s bytes) items None
    → AreItemsOf s bytes items × IsGood s bytes
stops-none s None items stops = (tt, tt)
stops-none s (Some bytes) items stops = (
  sym (ap (λ (c : RestOfFeed (Option FeedFault)). c.items) stops),
  fault_of-None (feed_of s bytes).end (ap (λ (c : RestOfFeed (Option FeedFault)). c.end) stops),
)

-- a stop is the feed's own fault
stops-fault : (s : Layout) (bytes : Option (List ℕ)) (items : List Item) (fault : FeedFault)
    → Stops (rest_of_feed s bytes) items (Some fault) → IsFaultOf s bytes fault
stops-fault s None items fault stops = tt
stops-fault s (Some bytes) items Memory stops = tt
stops-fault s (Some bytes) items Read stops = tt
stops-fault s (Some bytes) items Header stops =
    fault_of-Header (feed_of s bytes).end (ap (λ (c : RestOfFeed (Option FeedFault)). c.end) stops)
stops-fault s (Some bytes) items TooMany stops =
    fault_of-TooMany (feed_of s bytes).end (ap (λ (c : RestOfFeed (Option FeedFault)). c.end) stops)
stops-fault s (Some bytes) items (OpenQuote number) stops =
    fault_of-OpenQuote (feed_of s bytes).end number (ap (λ (c : RestOfFeed (Option FeedFault)). c.end) stops)
stops-fault s (Some bytes) items (LongRecord number) stops =
    fault_of-LongRecord (feed_of s bytes).end number (ap (λ (c : RestOfFeed (Option FeedFault)). c.end) stops)

-- ---- what an end says of the links of its source

-- the parcels of some items, where those of others follow, are the parcels of these items
pub parcels_of-front : (xs ys : List Item) (rest : List Parcel) → parcels_of xs ++ rest ≡ parcels_of ys → xs ≡ ys
parcels_of-front [] [] rest e = refl
parcels_of-front [] (y ∷ ys) rest e = cc
parcels_of-front (x ∷ xs) [] rest e = cc
parcels_of-front (x ∷ xs) (y ∷ ys) rest e =
    let head : x ≡ y = cc in
    let tail : parcels_of xs ++ rest ≡ parcels_of ys = cc in
    let same = parcels_of-front xs ys rest tail in
    cc

-- the receipt is of a link, and names the parcels of these items
abbrev pub Names : List Item → Sending Parcel → Sending Parcel → Type 0
Names items received receipt = (receipt.link ≡ received.link) × (receipt.sent ≡ parcels_of items)

-- an end has items, of which its stop tells, and whose parcels each of its receipts names
pub record Tells (rest : KnownRest) (received : List (List (Sending Parcel))) (k : ℕ) (end : FeederEnd) : Type 0 where
  pub items : List Item
  pub stops : Stops rest items end.stop
  pub names : (j : ℕ) (d : Sending Parcel) → j < length received
      → IfSome (receipt_of end j) (Names items (get_or (get_or received j []) k d))

-- so does each end, one for each source; and each builder has a link from each source
pub record AllTell (s : Layout) (sources : SourceBytes) (received : List (List (Sending Parcel)))
    (ends : List FeederEnd)
    : Type 0 where
  pub all : length ends ≡ length sources
  pub links : (j : ℕ) → j < length received → length (get_or received j []) ≡ length ends
  pub each : (k : ℕ) (e : FeederEnd) → k < length ends
      → Tells (rest_of_feed s (get_or sources k None)) received k (get_or ends k e)

fits-names : (items : List Item) (received : Sending Parcel) (receipt : Option (Sending Parcel))
    → IfSome receipt (Names items received) → IfSome receipt (λ r. r.link ≡ received.link)
fits-names items received None names = tt
fits-names items received (Some receipt) names = names.0

-- each receipt is that of its link
pub fit-tell : (s : Layout) (sources : SourceBytes) (received : List (List (Sending Parcel))) (ends : List FeederEnd)
    → AllTell s sources received ends → AllFitLinks ends received
fit-tell s sources received ends tell j below = record {
  all = tell.links j below;
  each = λ k e d low.
      let t = tell.each k e low in
      fits-names t.items (get_or (get_or received j []) k d) (receipt_of (get_or ends k e) j) (t.names j d below);
}

-- ---- the fault that stops a run

good-at : (s : Layout) (sources : SourceBytes) (received : List (List (Sending Parcel))) (ends : List FeederEnd) (k : ℕ)
    (e : FeederEnd) → AllTell s sources received ends → k < length ends →
    HasNoStop (get_or ends k e) → IsGood s (get_or sources k None)
good-at s sources received ends k e tell below none =
    let t = tell.each k e below in
    (stops-none s (get_or sources k None) t.items (rw none at t.stops)).1

pub good-all : (s : Layout) (sources : SourceBytes) (received : List (List (Sending Parcel))) (ends : List FeederEnd)
    → AllTell s sources received ends → All HasNoStop ends → AreGood s sources
good-all s sources received ends tell good =
    let count = tell.all in
    all-each (IsGood s) sources None (λ k below.
    let low : k < length ends = omega arith in
    let e = some_of ends k low in
    good-at s sources received ends k e tell low (good k e low))

lowest-stop : (s : Layout) (sources : SourceBytes) (received : List (List (Sending Parcel))) (ends : List FeederEnd)
    (source : ℕ) (fault : FeedFault) → AllTell s sources received ends →
    IsFirstStop ends source fault → IsLowestFault s sources source fault
lowest-stop s sources received ends source fault tell first =
    let count = tell.all in
    let place = first.place in
    let within = first.within in
    let source_is = first.source_is in
    let at : source - 1 ≡ place = omega arith in
    let e = some_of ends place within in
    let t = tell.each place e within in
    let lower : AreGood s (take place sources) = all-each (IsGood s) (take place sources) None (λ k below.
    let short : k < place = omega (arith, length-take place sources) in
    let low : k < length ends = omega arith in
    let f = some_of ends k low in
    rw (get_or-take place sources k None short)
    (good-at s sources received ends k f tell low (first.lower k f short))) in
    record {
      first = omega arith;
      last = omega arith;
      lower = subst (λ (n : ℕ). AreGood s (take n sources)) (sym at) lower;
      ends = subst (λ (n : ℕ). IsFaultOf s (get_or sources n None) fault) (sym at)
          (stops-fault s (get_or sources place None) t.items fault (rw (first.is e) at t.stops));
    }

pub explains-stops : (s : Layout) (sources : SourceBytes) (received : List (List (Sending Parcel)))
    (ends : List FeederEnd)
    (builders : ℕ) (fault : FeedingFault) → AllTell s sources received ends →
    StopsFeeding builders ends fault → ExplainsFeeding s sources fault
explains-stops s sources received ends builders feeding_fault.Memory tell stops = tt
explains-stops s sources received ends builders feeding_fault.NoThread tell stops = tt
explains-stops s sources received ends builders (feeding_fault.Feed source fault) tell stops =
    lowest-stop s sources received ends source fault tell stops
explains-stops s sources received ends builders feeding_fault.Full tell stops =
    good-all s sources received ends tell stops
explains-stops s sources received ends builders (feeding_fault.Unsealed source) tell stops =
    let count = tell.all in
    let within = stops.1.within in
    let source_is = stops.1.source_is in
    (good-all s sources received ends tell stops.0, omega arith, omega arith)

-- ---- what a settled builder has taken

-- with a receipt, what arrived are the items that it names
Names-Begins : (items came : List Item) (received : Sending Parcel) (receipt : Option (Sending Parcel)) → IsSome receipt
    → received.sent ≡ parcels_of came →
    IfSome receipt (Names items received) → IfSome receipt (Begins received) → came ≡ items
Names-Begins items came received None there is names begins = cc
Names-Begins items came received (Some receipt) there is names begins =
    parcels_of-front came items begins.0 (ap (λ (xs : List Parcel). xs ++ begins.0) (sym is) ∙ begins.1 ∙ names.1)

-- what was received is the same of the links that are kept
received-kept : (old new : List (Receiving Parcel)) → map received_on new ≡ map received_on old
    → map (λ (inlet : Receiving Parcel). inlet.received) new ≡ map (λ (inlet : Receiving Parcel). inlet.received) old
received-kept old new same = sym (told new) ∙ ap (map (λ (link : Sending Parcel). link.sent)) same ∙ told old where
  told : (inlets : List (Receiving Parcel)) → map (λ (link : Sending Parcel). link.sent) (map received_on inlets)
      ≡ map (λ (inlet : Receiving Parcel). inlet.received) inlets
  told [] = refl
  told (x ∷ xs) = ap (λ rest. x.received ∷ rest) (told xs)

received-at : (inlets : List (Receiving Parcel)) (arrivals : Arrivals) (sources k : ℕ) (d : Sending Parcel)
    → HasReceived sources arrivals inlets → k < sources →
    (get_or (map received_on inlets) k d).sent ≡ parcels_of (of_source arrivals (k + 1))
received-at inlets arrivals sources k d received below =
    let items = of_sources sources arrivals in
    let count : length items ≡ sources = length-map-range_with_len (of_source arrivals) 1 sources in
    let as_many : length inlets ≡ length items = sym (length-map inlets (λ (inlet : Receiving Parcel). inlet.received))
    ∙ ap length received ∙ length-map items parcels_of in
    let low : k < length inlets = omega arith in
    let within : k < length items = omega arith in
    let i = some_of inlets k low in
    ap (λ (link : Sending Parcel). link.sent) (get_or-map received_on inlets k i d low)
    ∙ sym (get_or-map (λ (inlet : Receiving Parcel). inlet.received) inlets k i [] low)
    ∙ ap (λ (all : List (List Parcel)). get_or all k []) received
    ∙ get_or-map parcels_of items k [] [] within
    ∙ ap parcels_of (get_or-map-range_with_len (of_source arrivals) 1 sources k (k + 1) [] below (omega arith))

-- what arrived from a source at a builder that gathered, and is settled with its receipts,
-- are the items of the source's end
pub came-from : {B : Type 0} (stands : B → B → Arrivals → Type 0) (s : Layout) (sources : SourceBytes)
    (received : List (List (Sending Parcel))) (ends : List FeederEnd) (old mid : Gatherer B) (j : ℕ) →
    (tell : AllTell s sources received ends) → length old.inlets.items ≡ length sources
    → (gathers : HasGathered stands old mid) → j < length received → get_or received j [] ≡ received_by mid →
    All (IsSealed (length received)) ends → AllBegin ends received → (k : ℕ) (e : FeederEnd) (low : k < length ends)
    → of_source gathers.arrivals (k + 1) ≡ (tell.each k e low).items
came-from stands s sources received ends old mid j tell count gathers inside row sealed begin k e low =
    let all = tell.all in
    let below : k < length sources = omega arith in
    let arrivals = gathers.arrivals in
    let whole : HasReceived (length sources) arrivals mid.inlets.items = rw (← count) gathers.received in
    let t = tell.each k e low in
    let wide : k < length (get_or received j []) = omega (arith, tell.links j inside) in
    let d = some_of (get_or received j []) k wide in
    let came : (get_or (get_or received j []) k d).sent ≡ parcels_of (of_source arrivals (k + 1)) =
    subst (λ (links : List (Sending Parcel)). (get_or links k d).sent ≡ parcels_of (of_source arrivals (k + 1)))
    (sym row) (received-at mid.inlets.items arrivals (length sources) k d whole below) in
    Names-Begins t.items (of_source arrivals (k + 1)) (get_or (get_or received j []) k d)
    (receipt_of (get_or ends k e) j) (sealed k e low j inside) came (t.names j d inside) (begin j inside k e d low)

-- arrivals that have of each source the items of its end have those of its feed
pub items-settled : (s : Layout) (sources : SourceBytes) (received : List (List (Sending Parcel)))
    (ends : List FeederEnd)
    (arrivals : Arrivals) → (tell : AllTell s sources received ends) → All HasNoStop ends →
    ((k : ℕ) (e : FeederEnd) (low : k < length ends) → of_source arrivals (k + 1) ≡ (tell.each k e low).items)
    → AllZip (AreItemsOf s) sources (of_sources (length sources) arrivals)
items-settled s sources received ends arrivals tell good came =
    let all = tell.all in
    let items = of_sources (length sources) arrivals in
    let number : length items ≡ length sources = length-map-range_with_len (of_source arrivals) 1 (length sources) in
    all_zip-each (AreItemsOf s) sources items (sym number) (λ k b is below.
    let low : k < length ends = omega arith in
    let e = some_of ends k low in
    let t = tell.each k e low in
    let sent = (stops-none s (get_or sources k None) t.items (rw (good k e low) at t.stops)).0 in
    let place : get_or items k [] ≡ t.items =
    get_or-map-range_with_len (of_source arrivals) 1 (length sources) k (k + 1) [] below (omega arith) ∙ came k e low in
    rw (get_or_default sources k b None below, get_or_default items k is [] (omega arith), place) sent)

-- two lists of arrivals that have of each source the items of its end have the same of each
pub same-settled : (s : Layout) (sources : SourceBytes) (received : List (List (Sending Parcel)))
    (ends : List FeederEnd)
    (a b : Arrivals) → (tell : AllTell s sources received ends) →
    ((k : ℕ) (e : FeederEnd) (low : k < length ends) → of_source a (k + 1) ≡ (tell.each k e low).items)
    → ((k : ℕ) (e : FeederEnd) (low : k < length ends) → of_source b (k + 1) ≡ (tell.each k e low).items) →
    of_sources (length sources) a ≡ of_sources (length sources) b
same-settled s sources received ends a b tell came_a came_b =
    let all = tell.all in
    let number_a : length (of_sources (length sources) a) ≡ length sources =
    length-map-range_with_len (of_source a) 1 (length sources) in
    let number_b : length (of_sources (length sources) b) ≡ length sources =
    length-map-range_with_len (of_source b) 1 (length sources) in
    ext_get_or [] (of_sources (length sources) a) (of_sources (length sources) b) (number_a ∙ sym number_b) (λ k inside.
    let below : k < length sources = omega arith in
    let low : k < length ends = omega arith in
    let e = some_of ends k low in
    get_or-map-range_with_len (of_source a) 1 (length sources) k (k + 1) [] below (omega arith)
    ∙ came_a k e low
    ∙ sym (came_b k e low)
    ∙ sym (get_or-map-range_with_len (of_source b) 1 (length sources) k (k + 1) [] below (omega arith)))

-- a builder that gathered, and is settled with its receipts, has taken the feeds
pub takes-feeds : {B : Type 0} (stands : B → B → Arrivals → Type 0) (sources : ℕ) (feeds : List (List Item))
    (old mid new : Gatherer B) → length old.inlets.items ≡ sources → length feeds ≡ sources →
    (gathers : HasGathered stands old mid) → of_sources sources gathers.arrivals ≡ feeds → mid.wanting ≡ false
    → kept_of new ≡ kept_of mid → TakesFeeds (stands old.builder) feeds new
takes-feeds {B} stands sources feeds old mid new count long gathers same enough kept =
    let arrivals = gathers.arrivals in
    let whole : HasReceived sources arrivals mid.inlets.items = rw (← count) gathers.received in
    record {
      arrivals = arrivals;
      same = rw long same;
      stands_at = subst (λ (b : B). stands old.builder b arrivals) (sym (ap (λ (k : Kept B). k.builder) kept))
          (gathers.stands_at enough);
      received =
          rw long (received-kept mid.inlets.items new.inlets.items (ap (λ (k : Kept B). k.received) kept) ∙ whole);
    }
