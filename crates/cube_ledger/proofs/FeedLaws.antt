-- A feed taken into a ledger, item by item: what was taken, and what is to come.
use Rattle.std.proofs.Common.{◌≡◌, ℕ, List, [], ◌∷◌, ◌++◌, length, refl, sym, ap, ◌∙◌, subst, append_assoc}
use Rattle.std.specs.Prelude.{⊤, Option, Some, None, Ok, Err}
use Rattle.std.proofs.Math.ListN.{length-set}
use Rattle.std.proofs.lemmas.List.{append-nil, map-append}
use Rattle.cube_core.specs.Arrival.{Arrivals}
use Rattle.cube_core.specs.Layout.{Layout}
use Rattle.cube_core.specs.FeedRecords.{RestOfFeed, FeedEnd, Good, WrongHeader, TooManyRecords, WithinQuotes, RecordTooLong}
use Rattle.cube_core.specs.FeedRecords.{feed_of}
use Rattle.cube_core.specs.Run.{IsGood, AreItemsOf}
use Rattle.cube_core.specs.declared.change.Item.{Item}
use Rattle.cube_feed.specs.Faults.{IsEndOf, IsFaultOf}
use Rattle.cube_feed.specs.Feed.{KnownRest, FeedView, Gives, fault_of, nothing_but, rest_of_feed}
use Rattle.cube_feed.specs.declared.fault.FeedFault.{FeedFault}
use Rattle.cube_feed.specs.declared.fault.FeedFault.TheVariants.{Memory, Read, Header, TooMany, OpenQuote, LongRecord}
use Rattle.cube_feed.proofs.FaultLaws.{fault_of-None, fault_of-OpenQuote, fault_of-LongRecord}
use Rattle.cube_feed.proofs.TurnLaws.{from_source}
use Rattle.cube_ledger.specs.Build.{TakesFeed}
use Rattle.cube_ledger.specs.Ledger.{LedgerView, AtSource, Enters, LedgerStandsAt}

-- what was to come at the start are the items done, and then what is to come now
abbrev pub LeftOf : KnownRest → List Item → KnownRest → Type 0
LeftOf None done now = ⊤
LeftOf (Some all) done now =
    (rest : RestOfFeed (Option FeedFault)) × (now ≡ Some rest) × (all.items ≡ done ++ rest.items) × (all.end ≡ rest.end)

-- how far a feed was taken: a ledger that stood at an arrival list stands at the items done after it
pub record HasTaken (start : KnownRest) (source : ℕ) (old : LedgerView) (feed : FeedView) (now : LedgerView)
    : Type 0 where
  pub done : List Item
  pub left : LeftOf start done feed.to_come
  pub of_schema : feed.schema ≡ now.schema
  pub schema : now.schema ≡ old.schema
  pub sources : length now.accounts ≡ length old.accounts
  pub stands : (arrivals : Arrivals) → LedgerStandsAt old arrivals
      → LedgerStandsAt now (arrivals ++ from_source source done)

-- at the start nothing was taken
left-start : (start : KnownRest) → LeftOf start [] start
left-start None = tt
left-start (Some all) = (all, refl, refl, refl)

pub HasTaken-none : (source : ℕ) (ledger : LedgerView) (feed : FeedView) → feed.schema ≡ ledger.schema
    → HasTaken feed.to_come source ledger feed ledger
HasTaken-none source ledger feed schema = record {
  done = [];
  left = left-start feed.to_come;
  of_schema = schema;
  schema = refl;
  sources = refl;
  stands = λ arrivals stands. subst (LedgerStandsAt ledger) (sym (append-nil arrivals)) stands;
}

-- one item more
left-more : (start now next : KnownRest) (done : List Item) (item : Item) → LeftOf start done now
    → Gives now (Ok (Some item)) next
    → LeftOf start (done ++ item ∷ []) next
left-more None now next done item left gives = tt
left-more (Some all) now next done item left gives =
    let given : Gives (Some left.0) (Ok (Some item)) next =
    subst (λ (n : KnownRest). Gives n (Ok (Some item)) next) left.1 gives in (
      given.0,
      given.2,
      left.2 ∙ ap (λ (t : RestOfFeed (Option FeedFault)). done ++ t.items) given.1
          ∙ sym (append_assoc done (item ∷ []) given.0.items),
      left.3 ∙ ap (λ (t : RestOfFeed (Option FeedFault)). t.end) given.1,
    )

-- the arrivals with one item more of a source
from_source-more : (arrivals : Arrivals) (source : ℕ) (done : List Item) (item : Item)
    → (arrivals ++ from_source source done) ++ (source, item) ∷ [] ≡ arrivals ++ from_source source (done ++ item ∷ [])
from_source-more arrivals source done item =
    append_assoc arrivals (from_source source done) ((source, item) ∷ [])
    ∙ ap (λ more. arrivals ++ more) (sym (map-append (λ (x : Item). (source, x)) done (item ∷ [])))

pub HasTaken-more : (start : KnownRest) (source : ℕ) (old : LedgerView) (feed next : FeedView) (now new : LedgerView)
    (item : Item)
    → Gives feed.to_come (Ok (Some item)) next.to_come → next.schema ≡ feed.schema
    → AtSource (Enters now.schema item) source now new
    → ((arrivals : Arrivals) → LedgerStandsAt now arrivals → LedgerStandsAt new (arrivals ++ (source, item) ∷ []))
    → HasTaken start source old feed now → HasTaken start source old next new
HasTaken-more start source old feed next now new item gives same at stands taken = record {
  done = taken.done ++ item ∷ [];
  left = left-more start feed.to_come next.to_come taken.done item taken.left gives;
  of_schema = same ∙ taken.of_schema ∙ sym at.schema;
  schema = at.schema ∙ taken.schema;
  sources = ap length at.accounts ∙ length-set now.accounts _ at.account ∙ taken.sources;
  stands = λ arrivals before.
      subst (LedgerStandsAt new) (from_source-more arrivals source taken.done item)
      (stands (arrivals ++ from_source source taken.done) (taken.stands arrivals before));
}

-- ---- at the end

-- where nothing is to come but a good end, the items done are all, and the feed is good
all-done : (s : Layout) (bytes : Option (List ℕ)) (done : List Item) (now next : KnownRest)
    → LeftOf (rest_of_feed s bytes) done now → Gives now (Ok None) next → AreItemsOf s bytes done × IsGood s bytes
all-done s None done now next left gives = (tt, tt)
all-done s (Some known) done now next left gives =
    let given : left.0 ≡ nothing_but None = subst (λ (n : KnownRest). Gives n (Ok None) next) left.1 gives in (
      sym (left.2 ∙ ap (λ (t : RestOfFeed (Option FeedFault)). done ++ t.items) given ∙ append-nil done),
      fault_of-None (feed_of s known).end
          (left.3 ∙ ap (λ (t : RestOfFeed (Option FeedFault)). t.end) given),
    )

pub TakesFeed-all : (s : Layout) (bytes : Option (List ℕ)) (start : KnownRest) (source : ℕ) (old now : LedgerView)
    (feed next : FeedView) → start ≡ rest_of_feed s bytes → HasTaken start source old feed now
    → Gives feed.to_come (Ok None) next.to_come → TakesFeed s bytes source old now
TakesFeed-all s bytes start source old now feed next is taken gives =
    let left : LeftOf (rest_of_feed s bytes) taken.done feed.to_come =
    subst (λ (a : KnownRest). LeftOf a taken.done feed.to_come) is taken.left in
    let done = all-done s bytes taken.done feed.to_come next.to_come left gives in
    record {
      items = taken.done;
      all = done.0;
      good = done.1;
      schema = taken.schema;
      sources = taken.sources;
      stands = taken.stands;
    }

ends-so : (end : FeedEnd) (fault : FeedFault) → fault_of end ≡ Some fault → IsEndOf end fault
ends-so end Memory is = tt
ends-so end Read is = tt
ends-so Good Header is = cc
ends-so WrongHeader Header is = refl
ends-so TooManyRecords Header is = cc
ends-so (WithinQuotes other) Header is = cc
ends-so (RecordTooLong other) Header is = cc
ends-so Good TooMany is = cc
ends-so WrongHeader TooMany is = cc
ends-so TooManyRecords TooMany is = refl
ends-so (WithinQuotes other) TooMany is = cc
ends-so (RecordTooLong other) TooMany is = cc
ends-so end (OpenQuote number) is = fault_of-OpenQuote end number is
ends-so end (LongRecord number) is = fault_of-LongRecord end number is

-- where nothing is to come but a fault, it is the feed's
fault-given : (s : Layout) (known : List ℕ) (done : List Item) (now next : KnownRest) (fault : FeedFault)
    → LeftOf (rest_of_feed s (Some known)) done now → Gives now (Err fault) next
    → IsEndOf (feed_of s known).end fault
fault-given s known done now next Memory left gives = tt
fault-given s known done now next Read left gives = tt
fault-given s known done now next Header left gives =
    let given : left.0 ≡ nothing_but (Some Header) =
    subst (λ (n : KnownRest). Gives n (Err Header) next) left.1 gives in
    ends-so (feed_of s known).end Header
    (left.3 ∙ ap (λ (t : RestOfFeed (Option FeedFault)). t.end) given)
fault-given s known done now next TooMany left gives =
    let given : left.0 ≡ nothing_but (Some TooMany) =
    subst (λ (n : KnownRest). Gives n (Err TooMany) next) left.1 gives in
    ends-so (feed_of s known).end TooMany
    (left.3 ∙ ap (λ (t : RestOfFeed (Option FeedFault)). t.end) given)
fault-given s known done now next (OpenQuote number) left gives =
    let given : left.0 ≡ nothing_but (Some (OpenQuote number)) =
    subst (λ (n : KnownRest). Gives n (Err (OpenQuote number)) next) left.1 gives in
    ends-so (feed_of s known).end (OpenQuote number)
    (left.3 ∙ ap (λ (t : RestOfFeed (Option FeedFault)). t.end) given)
fault-given s known done now next (LongRecord number) left gives =
    let given : left.0 ≡ nothing_but (Some (LongRecord number)) =
    subst (λ (n : KnownRest). Gives n (Err (LongRecord number)) next) left.1 gives in
    ends-so (feed_of s known).end (LongRecord number)
    (left.3 ∙ ap (λ (t : RestOfFeed (Option FeedFault)). t.end) given)

pub fault-told : (s : Layout) (bytes : Option (List ℕ)) (start : KnownRest) (source : ℕ) (old now : LedgerView)
    (feed next : FeedView) (fault : FeedFault) → start ≡ rest_of_feed s bytes → HasTaken start source old feed now
    → Gives feed.to_come (Err fault) next.to_come → IsFaultOf s bytes fault
fault-told s None start source old now feed next fault is taken gives = tt
fault-told s (Some known) start source old now feed next fault is taken gives =
    fault-given s known taken.done feed.to_come next.to_come fault
    (subst (λ (a : KnownRest). LeftOf a taken.done feed.to_come) is taken.left) gives
