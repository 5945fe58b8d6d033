-- What is known of a run before its threads start, and after they were joined.
use Rattle.std.proofs.Common.{◌≡◌, ◌<◌, ◌≤◌, ◌+◌, ℕ, false, List, [], ◌∷◌, ◌++◌, length, get_or, map, refl, ap, sym}
use Rattle.std.proofs.Common.{◌∙◌, arith, Option, Some, None, IfSome}
use Rattle.std.specs.Prelude.{Result, Ok, Err, IfOk, OnOk, is_err}
use Rattle.std.specs.List.{All, AllZip}
use Rattle.std.proofs.lemmas.List.{get_or-map, length-map}
use Rattle.cube_core.proofs.ListLaws.{AllZip-length}
use Rattle.std.proofs.lemmas.List.FromFn.{length-map-range_with_len}
use Rattle.cube_core.specs.Arrival.{Arrivals, of_source, of_sources}
use Rattle.cube_core.specs.Layout.{Layout}
use Rattle.cube_core.specs.Run.{SourceBytes}
use Rattle.cube_core.specs.declared.change.Item.{Item}
use Rattle.cube_feed.specs.Feed.{KnownRest, rest_of_feed}
use Rattle.cube_rings.specs.Link.{Sending, Receiving, Link}
use Rattle.cube_rings.specs.FeedingAll.{IsNew, TakesFeeds, TakeAll}
use Rattle.cube_rings.specs.Feeding.{Feeds, IsReceiptOf}
use Rattle.cube_rings.specs.Parcels.{parcels_of, sends}
use Rattle.cube_rings.specs.Settling.{received_on, received_by, kept_of, receipt_of, SettlesBuilders}
use Rattle.cube_rings.specs.Starting.{IsReady, HasGathered}
use Rattle.cube_rings.specs.Wiring.{AreLinked}
use Rattle.cube_rings.specs.declared.parcel.Parcel.{Parcel}
use Rattle.cube_rings.specs.declared.parcel.FeederEnd.{FeederEnd}
use Rattle.cube_rings.specs.declared.gatherer.Gatherer.{Gatherer}
use Rattle.cube_rings.proofs.TakeLaws.{Names, AllTell, all_zip-at, all_zip-each, came-from, items-settled}
use Rattle.cube_rings.proofs.TakeLaws.{same-settled, takes-feeds}
use Rattle.cube_rings.proofs.PlaceLaws.{some_of}
use Rattle.cube_feed.proofs.FaultLaws.{OnOk-holds}

-- linked builders that have taken nothing are ready
pub ready-linked : {B : Type 0} (all : B → ℕ) (stands : B → B → Arrivals → Type 0) (sources : ℕ) (builders : List B)
    (outs : List (List (Sending Parcel))) (gatherers : List (Gatherer B)) →
    AreLinked outs gatherers → length outs ≡ sources → sources ≤ 64
    → map (λ gatherer. gatherer.builder) gatherers ≡ builders → All (IsNew all stands sources) builders
    → All (IsReady all stands) gatherers
ready-linked {B} all stands sources builders outs gatherers linked count most same new j d below =
    let gatherer = get_or gatherers j d in
    let as_many : length gatherers ≡ length builders =
    sym (length-map gatherers (λ (g : Gatherer B). g.builder)) ∙ ap length same in
    let at : get_or builders j d.builder ≡ gatherer.builder = ap (λ (bs : List B). get_or bs j d.builder) (sym same)
    ∙ get_or-map (λ (g : Gatherer B). g.builder) gatherers j d d.builder below in
    let is = rw at at (new j d.builder (omega arith)) in
    let tall = linked.heights j d below in
    let len = gatherer.inlets.ok.0 in
    record {
      inlets = omega (arith, len, tall, count, is.sources_are);
      most = omega (arith, len, tall, count, most);
      fresh = λ k i low. linked.unreceived k j d i (omega (arith, tall)) below;
      stands_at = is.stands_at;
    }

-- the end of each feeder, by what was to come of its feed and by its outlets
pub record EndsOf (rests : List KnownRest) (outs : List (List (Sending Parcel)))
    (ends : List FeederEnd) : Type 0 where
  pub same_outs : length outs ≡ length ends
  pub same_rests : length rests ≡ length ends
  pub each : (k : ℕ) (e : FeederEnd) → k < length ends
      → Feeds (get_or rests k None) (get_or outs k []) (get_or ends k e)

pub ends-joined : {P : Type 0} (feed : P → KnownRest) (outs : P → List (Sending Parcel)) (feeders : List P)
    (ends : List FeederEnd) →
    AllZip (λ feeder end. Feeds (feed feeder) (outs feeder) end) feeders ends
    → EndsOf (map feed feeders) (map outs feeders) ends
ends-joined feed outs feeders ends joined =
    let same = AllZip-length (λ feeder end. Feeds (feed feeder) (outs feeder) end) feeders ends joined in
    record {
      same_outs = length-map feeders outs ∙ same;
      same_rests = length-map feeders feed ∙ same;
      each = λ k e below.
          let low : k < length feeders = omega arith in
          let f = some_of feeders k low in
          rw (
            get_or-map feed feeders k f None low,
            get_or-map outs feeders k f [] low,
          ) (all_zip-at (λ feeder end. Feeds (feed feeder) (outs feeder) end) feeders ends k f e joined low);
    }

names-receipt : (items : List Item) (outlet received : Sending Parcel) (receipt : Option (Sending Parcel))
    → outlet.link ≡ received.link → outlet.sent ≡ [] →
    IfSome receipt (IsReceiptOf (sends (parcels_of items) outlet)) → IfSome receipt (Names items received)
names-receipt items outlet received None linked unsent is = tt
names-receipt items outlet received (Some receipt) linked unsent is =
    (is.0 ∙ linked, is.1 ∙ ap (λ (xs : List Parcel). xs ++ parcels_of items) unsent)

-- gathering keeps the links
link-gathered : (old new : List (Receiving Parcel)) (k : ℕ) (i : Receiving Parcel) (d : Sending Parcel)
    → map (λ (inlet : Receiving Parcel). inlet.link) new ≡ map (λ (inlet : Receiving Parcel). inlet.link) old
    → k < length old →
    (get_or (map received_on new) k d).link ≡ (get_or old k i).link
link-gathered old new k i d same below =
    let count : length new ≡ length old = sym (length-map new (λ (inlet : Receiving Parcel). inlet.link))
    ∙ ap length same ∙ length-map old (λ (inlet : Receiving Parcel). inlet.link) in
    let low : k < length new = omega arith in
    ap (λ (link : Sending Parcel). link.link) (get_or-map received_on new k i d low)
    ∙ sym (get_or-map (λ (inlet : Receiving Parcel). inlet.link) new k i i.link low)
    ∙ ap (λ (links : List Link). get_or links k i.link) same
    ∙ get_or-map (λ (inlet : Receiving Parcel). inlet.link) old k i i.link below

length-gathered : (old new : List (Receiving Parcel))
    → map (λ (inlet : Receiving Parcel). inlet.link) new ≡ map (λ (inlet : Receiving Parcel). inlet.link) old
    → length new ≡ length old
length-gathered old new same = sym (length-map new (λ (inlet : Receiving Parcel). inlet.link)) ∙ ap length same
    ∙ length-map old (λ (inlet : Receiving Parcel). inlet.link)

-- what ends tell after the joins
pub tell-joined : {B : Type 0} (stands : B → B → Arrivals → Type 0) (s : Layout) (sources : SourceBytes)
    (rests : List KnownRest)
    (outs : List (List (Sending Parcel))) (ends : List FeederEnd) (old mid : List (Gatherer B)) →
    AreLinked outs old → rests ≡ map (rest_of_feed s) sources → EndsOf rests outs ends
    → AllZip (HasGathered stands) old mid → AllTell s sources (map received_by mid) ends
tell-joined stands s sources rests outs ends old mid linked come joined gathered =
    let count = AllZip-length (HasGathered stands) old mid gathered in
    let outs_too = joined.same_outs in
    let rests_too = joined.same_rests in
    let rows = map received_by mid in
    let number : length rows ≡ length mid = length-map mid received_by in
    let told : length rests ≡ length sources = ap length come ∙ length-map sources (rest_of_feed s) in
    record {
      all = omega arith;
      links = λ j inside.
          let low : j < length mid = omega arith in
          let at : j < length old = omega arith in
          let d = some_of mid j low in
          let g = all_zip-at (HasGathered stands) old mid j d d gathered at in
          rw (get_or-map received_by mid j d [] low)
          (length-map (get_or mid j d).inlets.items received_on
          ∙ length-gathered (get_or old j d).inlets.items (get_or mid j d).inlets.items g.links
          ∙ linked.heights j d at
          ∙ outs_too);
      each = λ k e below.
          let reach : k < length outs = omega arith in
          let known : k < length sources = omega arith in
          let f = joined.each k e below in
          let b = some_of sources k known in
          record {
            items = f.items;
            stops = rw (← get_or-map (rest_of_feed s) sources k None None known, ← come) f.stops;
            names = λ j d inside.
                let low : j < length mid = omega arith in
                let at : j < length old = omega arith in
                let m = some_of mid j low in
                let g = all_zip-at (HasGathered stands) old mid j m m gathered at in
                let wide : j < length (get_or outs k []) = rw (linked.widths k reach) at in
                let o = some_of (get_or outs k []) j wide in
                let tall : k < length (get_or old j m).inlets.items = rw (linked.heights j m at) reach in
                let i = some_of (get_or old j m).inlets.items k tall in
                let outlets = get_or outs k [] in
                let sent : j < length (map (sends (parcels_of f.items)) outlets) =
                rw (length-map outlets (sends (parcels_of f.items))) wide in
                let receipt =
                rw (get_or-map (sends (parcels_of f.items)) outlets j o o wide) at (f.sealed.each j o sent) in
                let link : (get_or outlets j o).link ≡ (get_or (get_or rows j []) k d).link =
                linked.links k j m o i reach at
                ∙ sym (link-gathered (get_or old j m).inlets.items (get_or mid j m).inlets.items k i d g.links tall)
                ∙ ap (λ (row : List (Sending Parcel)). (get_or row k d).link)
                (sym (get_or-map received_by mid j m [] low)) in
                names-receipt f.items (get_or outlets j o) (get_or (get_or rows j []) k d)
                (receipt_of (get_or ends k e) j) link (linked.unsent k j o reach at) receipt;
          };
    }

-- what ends tell of the feeds alone
pub tell-ends : (s : Layout) (sources : SourceBytes) (rests : List KnownRest) (outs : List (List (Sending Parcel)))
    (ends : List FeederEnd) → rests ≡ map (rest_of_feed s) sources → EndsOf rests outs ends
    → AllTell s sources [] ends
tell-ends s sources rests outs ends come joined =
    let too = joined.same_rests in
    let told : length rests ≡ length sources = ap length come ∙ length-map sources (rest_of_feed s) in
    record {
      all = omega arith;
      links = λ j inside. absurd (omega arith);
      each = λ k e below.
          let f = joined.each k e below in
          record {
            items = f.items;
            stops = rw (← get_or-map (rest_of_feed s) sources k None None (omega arith), ← come) f.stops;
            names = λ j d inside. absurd (omega arith);
          };
    }

-- settled builders have all taken the same feeds
pub takes-settled : {B : Type 0} (stands : B → B → Arrivals → Type 0) (s : Layout) (sources : SourceBytes)
    (outs : List (List (Sending Parcel))) (ends : List FeederEnd) (builders : List B)
    (old mid new : List (Gatherer B)) →
    AreLinked outs old → length outs ≡ length sources → map (λ gatherer. gatherer.builder) old ≡ builders
    → AllZip (HasGathered stands) old mid → AllTell s sources (map received_by mid) ends → SettlesBuilders ends mid new
    →
    1 ≤ length mid → TakeAll stands s sources builders new
takes-settled {B} stands s sources outs ends builders old mid new linked as_many same gathered tell settles some =
    let rows = map received_by mid in
    let number : length rows ≡ length mid = length-map mid received_by in
    let count = AllZip-length (HasGathered stands) old mid gathered in
    let news : length new ≡ length mid =
    sym (length-map new kept_of) ∙ ap length settles.kept ∙ length-map mid kept_of in
    let bs : length builders ≡ length old = sym (ap length same) ∙ length-map old (λ (g : Gatherer B). g.builder) in
    let sealed = rw (← number) at settles.sealed in
    let arrive : (j : ℕ) (d : Gatherer B) → (at : j < length old) → (k : ℕ) (e : FeederEnd) (low : k < length ends)
    → of_source (all_zip-at (HasGathered stands) old mid j d d gathered at).arrivals (k + 1)
    ≡ (tell.each k e low).items =
    λ j d at.
    came-from stands s sources rows ends (get_or old j d) (get_or mid j d) j tell (linked.heights j d at ∙ as_many)
    (all_zip-at (HasGathered stands) old mid j d d gathered at)
    (omega arith) (get_or-map received_by mid j d [] (omega arith)) sealed settles.begin in
    let one : 0 < length old = omega arith in
    let m = some_of mid 0 (omega arith) in
    let arrivals = (all_zip-at (HasGathered stands) old mid 0 m m gathered one).arrivals in
    let feeds = of_sources (length sources) arrivals in
    let long : length feeds ≡ length sources = length-map-range_with_len (of_source arrivals) 1 (length sources) in
    record {
      feeds = feeds;
      items = items-settled s sources rows ends arrivals tell settles.good (arrive 0 m one);
      each = all_zip-each (λ builder gatherer. TakesFeeds (stands builder) feeds gatherer) builders new
          (omega arith) (λ j b d below.
          let at : j < length old = omega arith in
          let low : j < length mid = omega arith in
          let fresh : j < length new = omega arith in
          let g = all_zip-at (HasGathered stands) old mid j d d gathered at in
          let first : get_or builders j b ≡ (get_or old j d).builder =
          ap (λ (xs : List B). get_or xs j b) (sym same) ∙ get_or-map (λ (x : Gatherer B). x.builder) old j d b at in
          let kept : kept_of (get_or new j d) ≡ kept_of (get_or mid j d) =
          sym (get_or-map kept_of new j d (kept_of d) fresh) ∙ ap (λ xs. get_or xs j (kept_of d)) settles.kept
          ∙ get_or-map kept_of mid j d (kept_of d) low in
          rw first
          (takes-feeds stands (length sources) feeds (get_or old j d) (get_or mid j d) (get_or new j d)
          (linked.heights j d at ∙ as_many) long g
          (same-settled s sources rows ends g.arrivals arrivals tell (arrive j d at) (arrive 0 m one))
          (settles.enough j d low) kept));
    }

pub map-told : {A B C : Type 0} (f : A → B) (g : B → C) (xs : List A) → map (λ x. g (f x)) xs ≡ map g (map f xs)
map-told f g [] = refl
map-told f g (x ∷ xs) = ap (λ rest. g (f x) ∷ rest) (map-told f g xs)

-- what ends tell after the joins of a run whose threads were started
pub tell-run : {B P R E : Type 0} (stands : B → B → Arrivals → Type 0) (s : Layout) (remaining : R → Option (List ℕ))
    (readers : List R) (feed : P → KnownRest) (outs : P → List (Sending Parcel)) (feeders : List P)
    (ends : List FeederEnd)
    (old mid : List (Gatherer B)) (answer : Result Unit E) → is_err answer ≡ false → AreLinked (map outs feeders) old
    → map feed feeders ≡ map (λ reader. rest_of_feed s (remaining reader)) readers →
    OnOk answer (AllZip (λ feeder end. Feeds (feed feeder) (outs feeder) end) feeders ends)
    → OnOk answer (AllZip (HasGathered stands) old mid) → AllTell s (map remaining readers) (map received_by mid) ends
tell-run stands s remaining readers feed outs feeders ends old mid answer fine linked feeds joined gathered =
    tell-joined stands s (map remaining readers) (map feed feeders) (map outs feeders) ends old mid linked
    (feeds ∙ map-told remaining (rest_of_feed s) readers)
    (ends-joined feed outs feeders ends (OnOk-holds answer _ fine joined)) (OnOk-holds answer _ fine gathered)

-- what holds where something holds of an answer
pub on_ok-then : {A E : Type 0} (r : Result A E) (P : A → Type 0) (Q : Type 0) → ((x : A) → P x → Q) → IfOk r P
    → OnOk r Q
on_ok-then (Ok x) P Q then holds = then x holds
on_ok-then (Err e) P Q then holds = tt
