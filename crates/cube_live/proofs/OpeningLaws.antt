-- How an opening takes items, how those of shares are put together, and that what they become stands over their feeds.
use Rattle.std.proofs.Common.{◌≡◌, ◌-◌, ◌<◌, ◌≤◌, ◌+◌, ◌++◌, ◌∙◌, ℕ, zero, suc, List, [], ◌∷◌, length, get_or, map}
use Rattle.std.proofs.Common.{refl, sym, ap, subst, arith, append_assoc, flat_map, inl, inr, replicate, sum_by}
use Rattle.std.specs.Prelude.{slice_set}
use Rattle.std.specs.Global.{Vec}
use Rattle.std.specs.List.{All, AllZip, range_with_len}
use Rattle.std.proofs.lemmas.Bool.{cases_lt}
use Rattle.std.proofs.lemmas.List.{append-nil, flat_map_more, get_or_append_left, get_or-append_right, get_or-map}
use Rattle.std.proofs.lemmas.List.{get_or-replicate, length-append, length-map, length-replicate, map-append}
use Rattle.std.proofs.lemmas.List.Elements.{All-tail}
use Rattle.std.proofs.lemmas.List.Sums.{sum_by-cons}
use Rattle.std.proofs.lemmas.List.FromFn.{get_or-map-range_with_len, length-map-range_with_len}
use Rattle.cube_core.specs.Arrival.{Arrivals, of_source, of_sources}
use Rattle.cube_core.specs.Layout.{Layout}
use Rattle.cube_core.specs.Run.{SourceBytes, AreGood, AreItemsOf}
use Rattle.cube_core.specs.declared.change.Item.{Item}
use Rattle.cube_core.proofs.ListLaws.{AllZip-append, AllZip-length, sum_by-map}
use Rattle.cube_feed.proofs.TurnLaws.{from_source, in_turn, of_sources-in_turn}
use Rattle.cube_ledger.specs.Ledger.{AccountStandsAt, AccountView, LedgerStandsAt, LedgerView, new_account}
use Rattle.cube_ledger.specs.Taking.{LedgerStandsFrom}
use Rattle.cube_ledger.proofs.StandLaws.{LedgerStandsAt-new, of_source-other}
use Rattle.cube_rings.specs.FeedingAll.{TakeAll}
use Rattle.cube_rings.specs.Shares.{StandAtShares, StandInShares}
use Rattle.cube_rings.specs.declared.gatherer.Gatherer.{Gatherer}
use Rattle.cube_build.proofs.ShareLaws.{StandTogether, sources_of, stand-together}
use Rattle.cube_live.specs.Live.{AreLast, LiveStandsAt, LiveView, last_number}
use Rattle.cube_live.specs.Opening.{AreNewOpenings, IsFilledUp, IsJoinedOpening, IsOpening}
use Rattle.cube_live.specs.Opening.{OpeningStandsAt, OpeningStandsFrom, OpeningView, OpensOver, last_numbers}
use Rattle.cube_live.specs.Opening.{opening_ledgers, opening_sources}
use Rattle.cube_live.proofs.LiveLaws.{last_number-own}

-- ---- the arrival list of feeds, and sources without one after them
-- sources without a feed add nothing
in_turn-none : (source : ℕ) (feeds : List (List Item)) (others : ℕ)
    → in_turn source (feeds ++ replicate others []) ≡ in_turn source feeds
in_turn-none source [] zero = refl
in_turn-none source [] (suc others) = in_turn-none (source + 1) [] others
in_turn-none source (items ∷ feeds) others =
    ap (λ (rest : Arrivals). from_source source items ++ rest) (in_turn-none (source + 1) feeds others)

of_sources-filled : (feeds : List (List Item)) (others : ℕ)
    → of_sources (length feeds + others) (in_turn 1 feeds) ≡ feeds ++ replicate others []
of_sources-filled feeds others =
    let all : List (List Item) = feeds ++ replicate others [] in
    let long : length all ≡ length feeds + others =
    length-append feeds (replicate others []) ∙ ap (λ n. length feeds + n) (length-replicate others []) in
    (λ i. of_sources (sym long i) (sym (in_turn-none 1 feeds others) i)) ∙ of_sources-in_turn 1 all

of_source-beyond : (feeds : List (List Item)) (source : ℕ) → length feeds < source
    → of_source (in_turn 1 feeds) source ≡ []
of_source-beyond feeds source above =
    let others : ℕ = source - length feeds in
    sym (get_or-map-range_with_len (of_source (in_turn 1 feeds)) 1 (length feeds + others) (source - 1) source []
    (omega arith) (omega arith))
    ∙ ap (λ (all : List (List Item)). get_or all (source - 1) []) (of_sources-filled feeds others)
    ∙ get_or-append_right feeds (replicate others []) (length feeds) (source - 1) [] refl (omega arith)
    ∙ get_or-replicate others (source - 1 - length feeds) [] [] (omega arith)

of_sources-none : (sources : ℕ) → of_sources sources [] ≡ replicate sources []
of_sources-none sources =
    let count : sources ≡ 0 + sources = omega arith in
    ap (λ n. of_sources n []) count ∙ of_sources-filled [] sources

-- new accounts stand where nothing came
stand-new : (s : Layout) (sources : ℕ)
    → AllZip (AccountStandsAt s) (replicate sources []) (replicate sources new_account)
stand-new s sources =
    let ledger : LedgerView = record { schema = s; accounts = replicate sources new_account } in
    subst (λ (feeds : List (List Item)). AllZip (AccountStandsAt s) feeds (replicate sources new_account))
    (ap (λ n. of_sources n []) (length-replicate sources new_account) ∙ of_sources-none sources)
    (LedgerStandsAt-new ledger sources refl)

-- ---- the last numbers
last_numbers-filled : (feeds : List (List Item)) (others : ℕ)
    → map last_number (feeds ++ replicate others []) ≡ map last_number feeds ++ replicate others 0
last_numbers-filled [] zero = refl
last_numbers-filled [] (suc others) = ap (λ (rest : List ℕ). 0 ∷ rest) (last_numbers-filled [] others)
last_numbers-filled (items ∷ feeds) others =
    ap (λ (rest : List ℕ). last_number items ∷ rest) (last_numbers-filled feeds others)

-- where nothing was taken
last_numbers-none : (sources : ℕ) → replicate sources 0 ≡ last_numbers sources []
last_numbers-none sources = sym (ap (map last_number) (of_sources-none sources) ∙ last_numbers-filled [] sources)

-- those of later sources stay when an item comes
numbers-later : (arrivals : Arrivals) (source : ℕ) (item : Item) (first sources : ℕ) → source < first
    → map last_number (map (of_source arrivals) (range_with_len first sources))
    ≡ map last_number (map (of_source (arrivals ++ (source, item) ∷ [])) (range_with_len first sources))
numbers-later arrivals source item first zero below = refl
numbers-later arrivals source item first (suc sources) below =
    let own = ap last_number (of_source-other arrivals source first item (λ same. omega (arith, same))) in
    let rest = numbers-later arrivals source item (first + 1) sources (omega arith) in
    λ i. sym own i ∷ rest i

-- that of the source is the item's
numbers-set : (arrivals : Arrivals) (source : ℕ) (item : Item) (first sources place : ℕ) → source ≡ first + place
    → place < sources
    → slice_set (map last_number (map (of_source arrivals) (range_with_len first sources))) place item.number
    ≡ map last_number (map (of_source (arrivals ++ (source, item) ∷ [])) (range_with_len first sources))
numbers-set arrivals source item first zero place is below = absurd (omega arith)
numbers-set arrivals source item first (suc sources) zero is below =
    let own : last_number (of_source (arrivals ++ (source, item) ∷ []) first) ≡ item.number =
    subst (λ n. last_number (of_source (arrivals ++ (source, item) ∷ []) n) ≡ item.number) (omega (arith, is))
    (last_number-own arrivals source item) in
    let rest = numbers-later arrivals source item (first + 1) sources (omega (arith, is)) in
    λ i. sym own i ∷ rest i
numbers-set arrivals source item first (suc sources) (suc place) is below =
    let own = ap last_number (of_source-other arrivals source first item (λ same. omega (arith, same, is))) in
    let rest = numbers-set arrivals source item (first + 1) sources place (omega (arith, is)) (omega arith) in
    λ i. sym own i ∷ rest i

-- ---- one opening
-- an opening that has the sources of another after its own is one
pub IsOpening-joined : (ledger more next : LedgerView) (most more_most : ℕ) (numbers more_numbers : List ℕ)
    → more.schema ≡ ledger.schema → next.schema ≡ ledger.schema → next.accounts ≡ ledger.accounts ++ more.accounts
    → IsOpening ledger most numbers → IsOpening more more_most more_numbers
    → IsOpening next most (numbers ++ more_numbers)
IsOpening-joined ledger more next most more_most numbers more_numbers alike schema accounts is is_more = record {
  most_is = is.most_is ∙ ap (λ (s : Layout). s.max_records) (sym schema);
  numbered = omega (
    arith,
    length-append numbers more_numbers,
    ap length accounts,
    length-append ledger.accounts more.accounts,
    is.numbered,
    is_more.numbered,
  );
  at_most = λ place. elim (cases_lt place (length numbers)) [
    | inl before ↦ rw (get_or_append_left numbers more_numbers 0 place before) (is.at_most place)
    | inr after ↦
        rw (get_or-append_right numbers more_numbers (length numbers) place 0 refl after)
        (omega (arith, is_more.at_most (place - length numbers), same))
  ];
} where
  same : more_most ≡ most
  same = is_more.most_is ∙ ap (λ (s : Layout). s.max_records) alike ∙ sym is.most_is

-- an opening took the next item of a source
pub OpeningStandsFrom-more : (first old new : OpeningView) (arrivals : Arrivals) (source : ℕ) (item : Item)
    → 1 ≤ source → source ≤ opening_sources old → opening_sources new ≡ opening_sources old
    → new.ledger.schema ≡ old.ledger.schema
    → (LedgerStandsAt old.ledger arrivals → LedgerStandsAt new.ledger (arrivals ++ (source, item) ∷ []))
    → new.numbers ≡ slice_set old.numbers (source - 1) item.number → OpeningStandsFrom first old arrivals
    → OpeningStandsFrom first new (arrivals ++ (source, item) ∷ [])
OpeningStandsFrom-more first old new arrivals source item some within all schema takes set stands = record {
  ledger = record {
    schema = schema ∙ stands.ledger.schema;
    all = all ∙ stands.ledger.all;
    stands_at = takes stands.ledger.stands_at;
  };
  numbers =
      set ∙ ap (λ (numbers : List ℕ). slice_set numbers (source - 1) item.number) stands.numbers
      ∙ numbers-set arrivals source item 1 (opening_sources old) (source - 1) (omega arith) (omega arith)
      ∙ ap (λ n. last_numbers n (arrivals ++ (source, item) ∷ [])) (sym all);
}

-- one of which no item came stands where nothing came
pub OpeningStandsAt-new : (opening : OpeningView) (sources : ℕ)
    → opening.ledger.accounts ≡ replicate sources new_account → opening.numbers ≡ replicate sources 0
    → OpeningStandsAt opening []
OpeningStandsAt-new opening sources accounts none = record {
  ledger = LedgerStandsAt-new opening.ledger sources accounts;
  numbers = none ∙ last_numbers-none sources
      ∙ ap (λ n. last_numbers n []) (sym (ap length accounts ∙ length-replicate sources new_account));
}

-- the cube that is made of an opening of 64 sources stands where it stood
pub LiveStandsAt-made : (opening : OpeningView) (live : LiveView) (arrivals : Arrivals) → opening_sources opening ≡ 64
    → live.ledger ≡ opening.ledger → live.numbers ≡ opening.numbers → OpeningStandsAt opening arrivals
    → LiveStandsAt live arrivals
LiveStandsAt-made opening live arrivals all ledger numbers stands = record {
  ledger = subst (λ (l : LedgerView). LedgerStandsAt l arrivals) (sym ledger) stands.ledger;
  numbers = λ source some within.
      ap (λ (ns : List ℕ). get_or ns (source - 1) 0)
      (numbers ∙ stands.numbers ∙ ap (λ n. last_numbers n arrivals) all)
      ∙ last-at source some within;
} where
  last-at : AreLast (last_numbers 64 arrivals) arrivals
  last-at source some within =
      let inside : source - 1 < length (of_sources 64 arrivals) =
      omega (arith, length-map-range_with_len (of_source arrivals) 1 64) in
      get_or-map last_number (of_sources 64 arrivals) (source - 1) [] 0 inside
      ∙ ap last_number
      (get_or-map-range_with_len (of_source arrivals) 1 64 (source - 1) source [] (omega arith) (omega arith))

-- ---- openings of shares
-- what holds of the ledgers of openings
All-ledgers : (P : LedgerView → Type 0) (openings : List OpeningView) → All P (opening_ledgers openings)
    → All (λ opening. P opening.ledger) openings
All-ledgers P openings all = λ k d inside.
    subst P (get_or-map (λ (o : OpeningView). o.ledger) openings k d d.ledger inside)
    (all k d.ledger (omega (arith, length-map openings (λ (o : OpeningView). o.ledger))))

-- new ones stand where nothing came
pub stands-new : (s : Layout) (sources : ℕ) (openings : List OpeningView) → AreNewOpenings s sources openings
    → All (λ opening. OpeningStandsFrom opening opening []) openings
stands-new s sources openings new = λ k d inside. record {
  ledger = record {
    schema = refl;
    all = refl;
    stands_at = All-ledgers (λ (l : LedgerView). LedgerStandsAt l []) openings new.ledgers.stands_at k d inside;
  };
  numbers = new.numbers k d inside ∙ last_numbers-none (opening_sources (get_or openings k d));
}

-- the ledgers of openings that stand in shares do
ledgers-stand : (olds news : List OpeningView) (feeds : List (List Item))
    → StandAtShares opening_sources OpeningStandsFrom olds news feeds
    → StandAtShares sources_of LedgerStandsFrom (opening_ledgers olds) (opening_ledgers news) feeds
ledgers-stand [] [] feeds stand = stand
ledgers-stand [] (new ∷ news) feeds stand = absurd stand
ledgers-stand (old ∷ olds) [] feeds stand = absurd stand
ledgers-stand (old ∷ olds) (new ∷ news) feeds stand =
    (stand.0, stand.1, stand.2, stand.3.ledger, ledgers-stand olds news stand.1 stand.4)

-- and their numbers are together those of the feeds' last items
numbers-stand : (olds news : List OpeningView) (feeds : List (List Item))
    → StandAtShares opening_sources OpeningStandsFrom olds news feeds
    → flat_map (λ (o : OpeningView). o.numbers) news ≡ map last_number feeds
numbers-stand [] [] feeds stand = ap (map last_number) (sym stand)
numbers-stand [] (new ∷ news) feeds stand = absurd stand
numbers-stand (old ∷ olds) [] feeds stand = absurd stand
numbers-stand (old ∷ olds) (new ∷ news) feeds stand =
    let from : OpeningStandsFrom old new stand.0 = stand.3 in
    let own : new.numbers ≡ last_numbers (opening_sources old) stand.0 =
    from.numbers ∙ ap (λ n. last_numbers n stand.0) from.ledger.all in
    let rest = numbers-stand olds news stand.1 stand.4 in
    (λ i. own i ++ rest i) ∙ sym (map-append last_number (of_sources (opening_sources old) stand.0) stand.1)
    ∙ ap (map last_number) (sym stand.2)

-- what openings in shares are that have taken the feeds of all sources
pub record HaveTakenFeeds (s : Layout) (sources : SourceBytes) (openings : List OpeningView) : Type 0 where
  pub feeds : List (List Item)
  pub items : AllZip (AreItemsOf s) sources feeds
  pub schema : All (λ opening. opening.ledger.schema ≡ s) openings
  pub all : sum_by opening_sources openings ≡ length sources
  pub stand : AllZip (AccountStandsAt s) feeds (flat_map (λ ledger. ledger.accounts) (opening_ledgers openings))
  pub numbers : flat_map (λ opening. opening.numbers) openings ≡ map last_number feeds

pub taken-feeds : (s : Layout) (sources : SourceBytes) (openings : Vec OpeningView)
    (wholes : List (Gatherer (Vec OpeningView))) (whole : Gatherer (Vec OpeningView))
    → AreNewOpenings s (length sources) openings.items
    → TakeAll (StandInShares opening_sources OpeningStandsFrom) s sources (openings ∷ []) wholes
    → whole ≡ get_or wholes 0 whole → HaveTakenFeeds s sources whole.builder.items
taken-feeds s sources openings [] whole new taken is = absurd taken.each
taken-feeds s sources openings (x ∷ y ∷ ys) whole new taken is = absurd taken.each.1
taken-feeds s sources openings (one ∷ []) whole new taken is =
    subst (λ (w : Gatherer (Vec OpeningView)). HaveTakenFeeds s sources w.builder.items) (sym is) (record {
      feeds = taken.feeds;
      items = taken.items;
      schema = All-ledgers (λ (l : LedgerView). l.schema ≡ s) news together.schema;
      all = sym (sum_by-map (λ (o : OpeningView). o.ledger) sources_of news) ∙ together.sources
          ∙ new.ledgers.together;
      stand = together.stand;
      numbers = numbers-stand openings.items news taken.feeds stand;
    }) where
      news : List OpeningView
      news = one.builder.items

      count : sum_by opening_sources openings.items ≡ length taken.feeds
      count = sym (sum_by-map (λ (o : OpeningView). o.ledger) sources_of openings.items) ∙ new.ledgers.together
          ∙ AllZip-length (AreItemsOf s) sources taken.feeds taken.items

      stand : StandAtShares opening_sources OpeningStandsFrom openings.items news taken.feeds
      stand = subst (StandAtShares opening_sources OpeningStandsFrom openings.items news)
          (ap (λ n. of_sources n taken.each.0.arrivals) count ∙ taken.each.0.same) taken.each.0.stands_at

      together : StandTogether s (opening_ledgers openings.items) (opening_ledgers news) taken.feeds
      together = stand-together s (opening_ledgers openings.items) (opening_ledgers news) taken.feeds
          (ledgers-stand openings.items news taken.feeds stand) new.ledgers.schema

-- ---- put together
-- while openings are put together: these were, and these are left
pub record ArePutSoFar (s : Layout) (openings done left : List OpeningView) (whole : OpeningView) : Type 0 where
  pub all : done ++ left ≡ openings
  pub of : All (λ opening. opening.ledger.schema ≡ s) left
  pub most : opening_sources whole + sum_by opening_sources left ≤ 64
  pub schema : whole.ledger.schema ≡ s
  pub accounts : whole.ledger.accounts ≡ flat_map (λ ledger. ledger.accounts) (opening_ledgers done)
  pub numbers : whole.numbers ≡ flat_map (λ opening. opening.numbers) done

pub put-more : (s : Layout) (openings done left : List OpeningView) (whole opening next : OpeningView)
    → ArePutSoFar s openings done (opening ∷ left) whole → IsJoinedOpening whole opening next
    → ArePutSoFar s openings (done ++ opening ∷ []) left next
put-more s openings done left whole opening next so_far joined = record {
  all = append_assoc done (opening ∷ []) left ∙ so_far.all;
  of = All-tail (λ (o : OpeningView). o.ledger.schema ≡ s) opening left so_far.of;
  most = omega (
    arith,
    so_far.most,
    sum_by-cons opening_sources opening left,
    ap length joined.accounts,
    length-append whole.ledger.accounts opening.ledger.accounts,
  );
  schema = joined.schema ∙ so_far.schema;
  accounts = joined.accounts ∙ ap (λ (accounts : List AccountView). accounts ++ opening.ledger.accounts) so_far.accounts
      ∙ flat_map_more (λ (l : LedgerView). l.accounts) [] (opening_ledgers done) opening.ledger
      ∙ ap (flat_map (λ (l : LedgerView). l.accounts))
      (sym (map-append (λ (o : OpeningView). o.ledger) done (opening ∷ [])));
  numbers = joined.numbers ∙ ap (λ (numbers : List ℕ). numbers ++ opening.numbers) so_far.numbers
      ∙ flat_map_more (λ (o : OpeningView). o.numbers) [] done opening;
}

-- with those after them of which nothing was taken
pub put-all : (s : Layout) (openings done : List OpeningView) (whole others next : OpeningView) (sources : ℕ)
    → ArePutSoFar s openings done [] whole → sources ≡ 64 - opening_sources whole
    → others.ledger.accounts ≡ replicate sources new_account → others.numbers ≡ replicate sources 0
    → IsJoinedOpening whole others next → IsFilledUp s openings next
put-all s openings done whole others next sources so_far count accounts numbers joined = record {
  others = sources;
  sources = omega (
    arith,
    ap length joined.accounts,
    length-append whole.ledger.accounts others.ledger.accounts,
    ap length accounts,
    length-replicate sources new_account,
    count,
    so_far.most,
  );
  schema = joined.schema ∙ so_far.schema;
  accounts = joined.accounts
      ∙ (λ i. (so_far.accounts ∙ ap (λ (os : List OpeningView). flat_map (λ (l : LedgerView). l.accounts)
      (opening_ledgers os)) all) i ++ accounts i);
  numbers = joined.numbers
      ∙ (λ i. (so_far.numbers ∙ ap (flat_map (λ (o : OpeningView). o.numbers)) all) i ++ numbers i);
} where
  all : done ≡ openings
  all = sym (append-nil done) ∙ so_far.all

-- the opening that they become stands over the feeds
pub OpensOver-filled : (s : Layout) (sources : SourceBytes) (openings : List OpeningView) (whole : OpeningView)
    → AreGood s sources → HaveTakenFeeds s sources openings → IsFilledUp s openings whole
    → OpensOver s sources (OpeningStandsAt whole)
OpensOver-filled s sources openings whole good taken filled = record {
  feeds = taken.feeds;
  good = good;
  items = taken.items;
  start = in_turn 1 taken.feeds;
  starts = record { fed = of_sources-in_turn 1 taken.feeds; others = of_source-beyond taken.feeds };
  stands = record {
    ledger = rw (filled.schema, has, filled.accounts) stand;
    numbers = filled.numbers ∙ ap (λ (numbers : List ℕ). numbers ++ replicate filled.others 0) taken.numbers
        ∙ sym (last_numbers-filled taken.feeds filled.others) ∙ ap (map last_number) (sym has);
  };
} where
  accounts : List AccountView
  accounts = flat_map (λ (l : LedgerView). l.accounts) (opening_ledgers openings)

  long : opening_sources whole ≡ length taken.feeds + filled.others
  long = omega (
    arith,
    ap length filled.accounts,
    length-append accounts (replicate filled.others new_account),
    length-replicate filled.others new_account,
    AllZip-length (AccountStandsAt s) taken.feeds accounts taken.stand,
  )

  has : of_sources (opening_sources whole) (in_turn 1 taken.feeds) ≡ taken.feeds ++ replicate filled.others []
  has = ap (λ n. of_sources n (in_turn 1 taken.feeds)) long ∙ of_sources-filled taken.feeds filled.others

  stand : AllZip (AccountStandsAt s) (taken.feeds ++ replicate filled.others [])
      (accounts ++ replicate filled.others new_account)
  stand = AllZip-append (AccountStandsAt s) taken.feeds (replicate filled.others []) accounts
      (replicate filled.others new_account) taken.stand
      (stand-new s filled.others)

-- where there is no feed
pub OpensOver-none : (s : Layout) (sources : SourceBytes) (Stands : Arrivals → Type 0) → length sources ≡ 0 → Stands []
    → OpensOver s sources Stands
OpensOver-none s [] Stands none stands = record {
  feeds = [];
  good = tt;
  items = tt;
  start = [];
  starts = record { fed = refl; others = λ source above. refl };
  stands = stands;
}
OpensOver-none s (bytes ∷ sources) Stands none stands = absurd (omega (arith, none))

-- what it stands over is what is made of it
pub OpensOver-made : {s : Layout} {sources : SourceBytes} {Fed Made : Arrivals → Type 0}
    → ((start : Arrivals) → Fed start → Made start) → OpensOver s sources Fed → OpensOver s sources Made
OpensOver-made to opens = record {
  feeds = opens.feeds;
  good = opens.good;
  items = opens.items;
  start = opens.start;
  starts = opens.starts;
  stands = to opens.start opens.stands;
}
