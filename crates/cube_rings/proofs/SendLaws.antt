-- What a feeder has sent grows item by item.
use Rattle.std.proofs.Common.{append-nil, ◌≡◌, List, [], ◌∷◌, ◌++◌, map, refl, ap, sym, ◌∙◌, subst, append_assoc}
use Rattle.std.proofs.Common.{Option, Some, None, Ok, Err}
use Rattle.std.proofs.lemmas.List.{map-append}
use Rattle.std.specs.Prelude.{⊤}
use Rattle.cube_core.specs.FeedRecords.{RestOfFeed}
use Rattle.cube_core.specs.declared.change.Item.{Item}
use Rattle.cube_feed.specs.Feed.{KnownRest, Gives, nothing_but}
use Rattle.cube_feed.specs.declared.fault.FeedFault.{FeedFault}
use Rattle.cube_feed.specs.declared.fault.FeedFault.TheVariants.{Memory, Read, Header, TooMany, OpenQuote, LongRecord}
use Rattle.cube_rings.specs.Link.{Sending}
use Rattle.cube_rings.specs.Parcels.{lines_of, sends}
use Rattle.cube_rings.specs.Feeding.{AreAll, Stops, SendsAll, AreReceipts, Feeds}
use Rattle.cube_rings.specs.declared.parcel.Parcel.{Parcel}
use Rattle.cube_rings.specs.declared.parcel.Parcel.TheVariants.{Line, End}
use Rattle.cube_rings.specs.declared.parcel.FeederEnd.{FeederEnd}

-- these items came of a feed, and this is still to come
abbrev pub SoFar : KnownRest → List Item → KnownRest → Type 0
SoFar None items now = ⊤
SoFar (Some rest) items now = (left : RestOfFeed (Option FeedFault)) × (now ≡ Some left)
    × (rest ≡ record { items = items ++ left.items; end = left.end })

-- what came of a feed was sent on each link
pub record HasSent (rest now : KnownRest) (old new : List (Sending Parcel)) : Type 0 where
  pub items : List Item
  pub so_far : SoFar rest items now
  pub sent : new ≡ map (sends (lines_of items)) old

sends-nothing : (sendings : List (Sending Parcel)) → map (sends []) sendings ≡ sendings
sends-nothing [] = refl
sends-nothing (s ∷ rest) = λ i. record { link = s.link; sent = append-nil s.sent i } ∷ sends-nothing rest i

sends-sends : (first then : List Parcel) (sendings : List (Sending Parcel))
    → map (sends then) (map (sends first) sendings) ≡ map (sends (first ++ then)) sendings
sends-sends first then [] = refl
sends-sends first then (s ∷ rest) =
    λ i. record { link = s.link; sent = append_assoc s.sent first then i } ∷ sends-sends first then rest i

-- parcels were sent after others
sends-after : (first then : List Parcel) (a b c : List (Sending Parcel)) → b ≡ map (sends first) a
    → c ≡ map (sends then) b → c ≡ map (sends (first ++ then)) a
sends-after first then a b c is next = next ∙ ap (λ sendings. map (sends then) sendings) is ∙ sends-sends first then a

so_far-none : (rest : KnownRest) → SoFar rest [] rest
so_far-none None = record {}
so_far-none (Some rest) = (rest, refl, refl)

pub has_sent-none : (rest : KnownRest) (outlets : List (Sending Parcel)) → HasSent rest rest outlets outlets
has_sent-none rest outlets = record { items = []; so_far = so_far-none rest; sent = sym (sends-nothing outlets) }

-- items to come, and their end
abbrev rest_made_of : List Item → Option FeedFault → RestOfFeed (Option FeedFault)
rest_made_of items end = record { items = items; end = end }

-- nothing but this end was to come after these items
so_far-nothing : (rest left : RestOfFeed (Option FeedFault)) (items : List Item) (end : Option FeedFault)
    → rest ≡ rest_made_of (items ++ left.items) left.end → left ≡ nothing_but end → AreAll rest items end
so_far-nothing rest left items end is nothing =
    is
    ∙ ap (λ (r : RestOfFeed (Option FeedFault)). rest_made_of (items ++ r.items) r.end) nothing
    ∙ ap (λ (all : List Item). rest_made_of all end) (append-nil items)

so_far-more : (rest now new : KnownRest) (items : List Item) (item : Item) → SoFar rest items now
    → Gives now (Ok (Some item)) new → SoFar rest (items ++ item ∷ []) new
so_far-more None now new items item so gives = record {}
so_far-more (Some rest) now new items item so gives =
    let g = rw so.1 at gives in (
      g.0,
      g.2,
      so.2
          ∙ ap (λ (r : RestOfFeed (Option FeedFault)). rest_made_of (items ++ r.items) r.end) g.1
          ∙ ap (λ (all : List Item). rest_made_of all g.0.end) (sym (append_assoc items (item ∷ []) g.0.items)),
    )

stops-end : (rest now new : KnownRest) (items : List Item) → SoFar rest items now → Gives now (Ok None) new
    → Stops rest items None
stops-end None now new items so gives = record {}
stops-end (Some rest) now new items so gives = so_far-nothing rest so.0 items None so.2 (rw so.1 at gives)

stops-fault : (rest now new : KnownRest) (items : List Item) (fault : FeedFault) → SoFar rest items now
    → Gives now (Err fault) new → Stops rest items (Some fault)
stops-fault None now new items fault so gives = record {}
stops-fault (Some rest) now new items Memory so gives =
    (so.0.items, ap (λ (c : RestOfFeed (Option FeedFault)). c.items) so.2)
stops-fault (Some rest) now new items Read so gives =
    (so.0.items, ap (λ (c : RestOfFeed (Option FeedFault)). c.items) so.2)
stops-fault (Some rest) now new items Header so gives =
    so_far-nothing rest so.0 items (Some Header) so.2 (rw so.1 at gives)
stops-fault (Some rest) now new items TooMany so gives =
    so_far-nothing rest so.0 items (Some TooMany) so.2 (rw so.1 at gives)
stops-fault (Some rest) now new items (OpenQuote number) so gives =
    so_far-nothing rest so.0 items (Some (OpenQuote number)) so.2 (rw so.1 at gives)
stops-fault (Some rest) now new items (LongRecord number) so gives =
    so_far-nothing rest so.0 items (Some (LongRecord number)) so.2 (rw so.1 at gives)

-- one item more was sent
pub has_sent-more : (rest now new : KnownRest) (a b c : List (Sending Parcel)) (item : Item) → HasSent rest now a b
    → Gives now (Ok (Some item)) new → c ≡ map (sends (Line item ∷ [])) b → HasSent rest new a c
has_sent-more rest now new a b c item has gives sent = record {
  items = has.items ++ item ∷ [];
  so_far = so_far-more rest now new has.items item has.so_far gives;
  sent =
      sends-after (lines_of has.items) (Line item ∷ []) a b c has.sent sent
      ∙ ap (λ parcels. map (sends parcels) a) (sym (map-append Line has.items (item ∷ [])));
}

-- the end was sent after all items
pub sends_all-end : (rest now new : KnownRest) (a b c : List (Sending Parcel)) → HasSent rest now a b
    → Gives now (Ok None) new → c ≡ map (sends (End ∷ [])) b → SendsAll rest a c None
sends_all-end rest now new a b c has gives sent = record {
  items = has.items;
  stops = stops-end rest now new has.items has.so_far gives;
  sent = sends-after (lines_of has.items) (End ∷ []) a b c has.sent sent;
}

-- the end was sent after the items before a fault
pub sends_all-fault : (rest now new : KnownRest) (a b c : List (Sending Parcel)) (fault : FeedFault)
    → HasSent rest now a b → Gives now (Err fault) new → c ≡ map (sends (End ∷ [])) b
    → SendsAll rest a c (Some fault)
sends_all-fault rest now new a b c fault has gives sent = record {
  items = has.items;
  stops = stops-fault rest now new has.items fault has.so_far gives;
  sent = sends-after (lines_of has.items) (End ∷ []) a b c has.sent sent;
}

pub feeds-sends_all : (rest : KnownRest) (a b : List (Sending Parcel)) (end : FeederEnd)
    → SendsAll rest a b end.stop
    → AreReceipts b end.receipts → Feeds rest a end
feeds-sends_all rest a b end all receipts = record {
  items = all.items;
  stops = all.stops;
  sealed = subst (λ sendings. AreReceipts sendings end.receipts) all.sent receipts;
}
