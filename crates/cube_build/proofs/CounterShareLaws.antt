-- The counters of shares, put together.
use Rattle.std.proofs.Common.{◌≡◌, ◌≤◌, ◌<◌, ◌+◌, ℕ, List, [], ◌∷◌, ◌++◌, ◌∙◌, false, flat_map, length, map, replicate}
use Rattle.std.proofs.Common.{◌-◌, append_assoc, get_or, refl, suc, sym, ap, subst, arith, inl, inr, sum_by, true}
use Rattle.std.specs.Global.{Vec}
use Rattle.std.specs.List.{All, AllZip, remove}
use Rattle.std.proofs.lemmas.Bool.{cases_lt}
use Rattle.std.proofs.lemmas.Grind.{flat_map-append}
use Rattle.std.proofs.lemmas.List.{append-nil, get_or_append_left, get_or-append_right, length-append}
use Rattle.std.proofs.lemmas.List.{length-replicate, map-append}
use Rattle.std.proofs.lemmas.List.Elements.{All-append, All-cons, All-head, All-nil, All-push, All-tail, filter-append}
use Rattle.std.proofs.lemmas.List.Concat.{length-flat_map}
use Rattle.std.proofs.lemmas.List.Sorted.{IsPermutation-append_comm}
use Rattle.std.proofs.lemmas.List.Sums.{sum_by-append, sum_by-cons}
use Rattle.cube_core.specs.Arrival.{of_sources}
use Rattle.cube_core.specs.Conditions.{hold, of_interest}
use Rattle.cube_core.specs.Layout.{Layout}
use Rattle.cube_core.specs.Run.{SourceBytes, AreItemsOf, AreGood}
use Rattle.cube_core.specs.Takes.{fits}
use Rattle.cube_core.specs.declared.change.Item.{Item}
use Rattle.cube_core.specs.declared.condition.Condition.{Condition}
use Rattle.cube_core.specs.declared.fact.Fact.{Fact}
use Rattle.cube_core.proofs.ListLaws.{sum_by-map}
use Rattle.cube_cells.specs.Cube.{Lattice, SameSets}
use Rattle.cube_cells.specs.Fill.{IsCubeOfAll, finest_set}
use Rattle.cube_ledger.specs.Book.{facts_of}
use Rattle.cube_ledger.specs.Ledger.{AccountView, AccountStandsAt, LedgerView, all_facts, new_account}
use Rattle.cube_ledger.specs.Taking.{LedgerStandsFrom}
use Rattle.cube_ledger.proofs.LedgerLaws.{All-append_left, All-append_right}
use Rattle.cube_ledger.proofs.StandLaws.{LedgerStandsAt-new}
use Rattle.cube_rings.specs.FeedingAll.{TakesFeeds, TakeAll}
use Rattle.cube_rings.specs.Shares.{StandAtShares, StandInShares}
use Rattle.cube_rings.specs.declared.gatherer.Gatherer.{Gatherer}
use Rattle.cube_build.specs.CountedRun.{CountsFeeds}
use Rattle.cube_build.specs.Counting.{AreWeighed, CountsAt, CounterStandsFrom, CounterView, IsCounted, IsCounter}
use Rattle.cube_build.specs.CounterShares.{AreNewCounters, AreUnspent, IsCounterOf, IsGathererOf, IsJoined, IsUnder}
use Rattle.cube_build.specs.CounterShares.{MayJoin, appended, counter_sources, ledgers_of}
use Rattle.cube_build.proofs.FactLaws.{CountsFacts-permutation}
use Rattle.cube_build.proofs.CountingLaws.{finest-all}
use Rattle.cube_build.proofs.ShareLaws.{StandTogether, sources_of, stand-together}

-- ---- two counters
-- the weights of both
weighed-append : (weights more_weights : List ℕ) (accounts more : List AccountView) → length weights ≡ length accounts
    → AreWeighed weights accounts → AreWeighed more_weights more
    → AreWeighed (weights ++ more_weights) (accounts ++ more)
weighed-append weights more_weights accounts more long are are_more = λ place inside.
    elim (cases_lt place (length accounts)) [
      | inl before ↦
          rw (
            get_or_append_left weights more_weights 0 place (omega (arith, long, before)),
            get_or_append_left accounts more new_account place before,
          ) (are place before)
      | inr after ↦
          rw (
            get_or-append_right weights more_weights (length accounts) place 0 long after,
            get_or-append_right accounts more (length accounts) place new_account refl after,
          ) (are_more (place - length accounts) (omega (arith, inside, after, length-append accounts more)))
    ]

-- a counter that has the sources of another after its own is one
pub counter-joined : (conditions : List Condition) (refused others next ledger more : LedgerView)
    (weights more_weights : List ℕ) (cube more_cube whole : Lattice) → more.schema ≡ ledger.schema
    → next.schema ≡ refused.schema → next.accounts ≡ refused.accounts ++ others.accounts → SameSets cube whole
    → ((before after : List Fact) → IsCubeOfAll before cube → IsCubeOfAll after more_cube
    → IsCubeOfAll (after ++ before) whole)
    → IsCounter false conditions refused ledger weights cube
    → IsCounter false conditions others more more_weights more_cube
    → IsCounter false conditions next (appended ledger more) (weights ++ more_weights) whole
counter-joined conditions refused others next ledger more weights more_weights cube more_cube whole alike schema
    accounts same joins is is_more = record {
      noted = record {
        schema = schema ∙ is.noted.schema;
        refusals =
            ap (map (λ (a : AccountView). a.refusals)) accounts
            ∙ map-append (λ (a : AccountView). a.refusals) refused.accounts others.accounts
            ∙ (λ i. is.noted.refusals i ++ is_more.noted.refusals i)
            ∙ sym (map-append (λ (a : AccountView). a.refusals) ledger.accounts more.accounts);
      };
      plain = is.plain;
      schema = same.schema ∙ is.schema;
      long = omega (
        arith,
        length-append weights more_weights,
        length-append ledger.accounts more.accounts,
        is.long,
        is_more.long,
      );
      counted = λ unspent. record {
        fit = rw facts (All-append Fits first second counted.fit
            (subst (λ (s : Layout). All (λ fact. fits s fact ≡ true) second) alike more_counted.fit));
        counts = rw facts (CountsFacts-permutation (second ++ first) (first ++ second) whole
            (IsPermutation-append_comm second first) (record { cells = all.cells; facts_are = all.facts_are }));
        sets =
            same.sets ∙ counted.sets ∙ ap (λ (s : Layout). finest_set (length s.dimensions) ∷ []) (sym same.schema);
        weighed = weighed-append weights more_weights ledger.accounts more.accounts is.long counted.weighed
            more_counted.weighed;
      };
    } where
      counted : IsCounted conditions ledger weights cube
      counted = is.counted refl

      more_counted : IsCounted conditions more more_weights more_cube
      more_counted = is_more.counted refl

      first : List Fact
      first = of_interest conditions (all_facts ledger.accounts)

      second : List Fact
      second = of_interest conditions (all_facts more.accounts)

      Fits : Fact → Type 0
      Fits fact = fits ledger.schema fact ≡ true

      facts : of_interest conditions (all_facts (ledger.accounts ++ more.accounts)) ≡ first ++ second
      facts =
          ap (of_interest conditions)
          (flat_map-append (λ (account : AccountView). facts_of account.book) ledger.accounts more.accounts)
          ∙ filter-append (hold conditions) (all_facts ledger.accounts) (all_facts more.accounts)

      all : IsCubeOfAll (second ++ first) whole
      all = joins first second (finest-all conditions refused ledger weights cube is)
          (finest-all conditions others more more_weights more_cube is_more)

-- ---- several counters
pub counter-of-one : (counter : CounterView) → counter.is_spent ≡ false → IsCounterOf (counter ∷ []) counter
counter-of-one counter unspent = record {
  all_unspent = All-cons (λ (c : CounterView). c.is_spent ≡ false) counter [] unspent
      (All-nil (λ (c : CounterView). c.is_spent ≡ false));
  unspent = unspent;
  under = λ s conditions all. All-head (IsUnder s conditions) counter [] all;
  accounts = sym (append-nil counter.ledger.accounts);
}

-- one counter more
counter-of-more : (done : List CounterView) (whole counter next : CounterView) → IsCounterOf done whole
    → counter.is_spent ≡ false → IsJoined whole counter next → IsCounterOf (done ++ counter ∷ []) next
counter-of-more done whole counter next is unspent joined = record {
  all_unspent = All-push (λ (c : CounterView). c.is_spent ≡ false) done counter is.all_unspent unspent;
  unspent = joined.unspent;
  under = λ s conditions all.
      let was = is.under s conditions (All-append_left (IsUnder s conditions) done (counter ∷ []) all) in
      record {
        schema = ap (λ (l : LedgerView). l.schema) joined.ledger ∙ was.schema;
        conditions_are = joined.conditions ∙ was.conditions_are;
      };
  accounts =
      ap (λ (l : LedgerView). l.accounts) joined.ledger
      ∙ ap (λ (accounts : List AccountView). accounts ++ counter.ledger.accounts) is.accounts
      ∙ ap (λ (accounts : List AccountView). flat_map (λ (l : LedgerView). l.accounts) (ledgers_of done) ++ accounts)
      (sym (append-nil counter.ledger.accounts))
      ∙ sym (flat_map-append (λ (l : LedgerView). l.accounts) (ledgers_of done) (counter.ledger ∷ []))
      ∙ ap (flat_map (λ (l : LedgerView). l.accounts))
      (sym (map-append (λ (c : CounterView). c.ledger) done (counter ∷ [])));
}

-- while counters are put together: these are left
pub record ArePutSoFar (counters left : List CounterView) (whole : CounterView) : Type 0 where
  pub done : List CounterView
  pub all : done ++ left ≡ counters
  pub is : IsCounterOf done whole

-- with the first alone
pub put-first : (counters left : List CounterView) (whole : CounterView) → 0 < length counters → AreUnspent counters
    → whole ≡ get_or counters 0 whole → left ≡ remove counters 0 → ArePutSoFar counters left whole
put-first [] left whole some unspent there rest = absurd (omega (arith, some))
put-first (counter ∷ counters) left whole some unspent there rest = record {
  done = whole ∷ [];
  all = λ i. there i ∷ rest i;
  is = counter-of-one whole (subst (λ (c : CounterView). c.is_spent ≡ false) (sym there)
      (All-head (λ (c : CounterView). c.is_spent ≡ false) counter counters unspent));
}

-- one that is left can be joined
pub record CanJoin (whole counter : CounterView) : Type 0 where
  pub unspent : counter.is_spent ≡ false
  pub schema : counter.ledger.schema ≡ whole.ledger.schema
  pub conditions : counter.conditions ≡ whole.conditions
  pub most : length whole.ledger.accounts + length counter.ledger.accounts ≤ 64

length-of : (done : List CounterView) (whole : CounterView) → IsCounterOf done whole
    → length whole.ledger.accounts ≡ sum_by counter_sources done
length-of done whole is =
    ap length is.accounts
    ∙ length-flat_map (λ (l : LedgerView). l.accounts) (ledgers_of done)
    ∙ sum_by-map (λ (c : CounterView). c.ledger) sources_of done

pub can-join : (counters left : List CounterView) (whole counter : CounterView) → MayJoin counters → AreUnspent counters
    → (so_far : ArePutSoFar counters (counter ∷ left) whole) → CanJoin whole counter
can-join counters left whole counter may unspent so_far = record {
  unspent = All-head Unspent counter left
      (All-append_right Unspent so_far.done (counter ∷ left) (rw (← so_far.all) at unspent));
  schema = mine.schema ∙ sym was.schema;
  conditions = mine.conditions_are ∙ sym was.conditions_are;
  most = omega (
    arith,
    may.most,
    length-of so_far.done whole so_far.is,
    ap (sum_by counter_sources) so_far.all,
    sum_by-append counter_sources so_far.done (counter ∷ left),
    sum_by-cons counter_sources counter left,
  );
} where
  Unspent : CounterView → Type 0
  Unspent c = c.is_spent ≡ false

  under : All (IsUnder may.schema may.conditions) (so_far.done ++ counter ∷ left)
  under = rw so_far.all may.under

  was : IsUnder may.schema may.conditions whole
  was = so_far.is.under may.schema may.conditions
      (All-append_left (IsUnder may.schema may.conditions) so_far.done (counter ∷ left) under)

  mine : IsUnder may.schema may.conditions counter
  mine = All-head (IsUnder may.schema may.conditions) counter left
      (All-append_right (IsUnder may.schema may.conditions) so_far.done (counter ∷ left) under)

pub put-more : (counters left : List CounterView) (whole counter next : CounterView)
    → ArePutSoFar counters (counter ∷ left) whole → counter.is_spent ≡ false → IsJoined whole counter next
    → ArePutSoFar counters left next
put-more counters left whole counter next so_far unspent joined = record {
  done = so_far.done ++ counter ∷ [];
  all = append_assoc so_far.done (counter ∷ []) left ∙ so_far.all;
  is = counter-of-more so_far.done whole counter next so_far.is unspent joined;
}

pub put-all : (counters : List CounterView) (whole : CounterView) → ArePutSoFar counters [] whole
    → IsCounterOf counters whole
put-all counters whole so_far =
    subst (λ (cs : List CounterView). IsCounterOf cs whole) (sym (append-nil so_far.done) ∙ so_far.all) so_far.is

-- ---- the feeds
-- counters that stand in shares: their ledgers do
ledgers-stand : (olds news : List CounterView) (feeds : List (List Item))
    → StandAtShares counter_sources CounterStandsFrom olds news feeds → AreUnspent news
    → StandAtShares sources_of LedgerStandsFrom (ledgers_of olds) (ledgers_of news) feeds
ledgers-stand [] [] feeds stand unspent = stand
ledgers-stand [] (new ∷ news) feeds stand unspent = absurd stand
ledgers-stand (old ∷ olds) [] feeds stand unspent = absurd stand
ledgers-stand (old ∷ olds) (new ∷ news) feeds stand unspent =
    let Unspent : CounterView → Type 0 = λ c. c.is_spent ≡ false in
    let at : CountsAt old new stand.0 = stand.3 (All-head Unspent new news unspent) in (
      stand.0,
      stand.1,
      stand.2,
      record { schema = at.schema; all = at.all; stands_at = at.stands_at },
      ledgers-stand olds news stand.1 stand.4 (All-tail Unspent new news unspent),
    )

-- they are under what the others were
counters-under : (s : Layout) (conditions : List Condition) (olds news : List CounterView) (feeds : List (List Item))
    → StandAtShares counter_sources CounterStandsFrom olds news feeds → AreUnspent news
    → All (IsUnder s conditions) olds → All (IsUnder s conditions) news
counters-under s conditions [] [] feeds stand unspent under = under
counters-under s conditions [] (new ∷ news) feeds stand unspent under = absurd stand
counters-under s conditions (old ∷ olds) [] feeds stand unspent under = absurd stand
counters-under s conditions (old ∷ olds) (new ∷ news) feeds stand unspent under =
    let Unspent : CounterView → Type 0 = λ c. c.is_spent ≡ false in
    let Under : CounterView → Type 0 = IsUnder s conditions in
    let at : CountsAt old new stand.0 = stand.3 (All-head Unspent new news unspent) in
    let was : IsUnder s conditions old = All-head Under old olds under in
    All-cons Under new news
    (record { schema = at.schema ∙ was.schema; conditions_are = at.conditions ∙ was.conditions_are })
    (counters-under s conditions olds news stand.1 stand.4 (All-tail Unspent new news unspent)
    (All-tail Under old olds under))

-- new counters stand where nothing came
pub stands-new : (s : Layout) (sources shares : ℕ) (conditions : List Condition) (counters : List CounterView)
    → AreNewCounters s sources shares conditions counters
    → All (λ counter. CounterStandsFrom counter counter []) counters
stands-new s sources shares conditions counters new = λ k d inside unspent. record {
  schema = refl;
  all = refl;
  conditions = refl;
  stands_at = LedgerStandsAt-new (get_or counters k d).ledger (counter_sources (get_or counters k d))
      (new.each k d inside).accounts;
}

-- as many
as-many : (olds news : List CounterView) (feeds : List (List Item))
    → StandAtShares counter_sources CounterStandsFrom olds news feeds → length news ≡ length olds
as-many [] [] feeds stand = refl
as-many [] (new ∷ news) feeds stand = absurd stand
as-many (old ∷ olds) [] feeds stand = absurd stand
as-many (old ∷ olds) (new ∷ news) feeds stand = ap suc (as-many olds news stand.1 stand.4)

-- what the counters in shares have become has taken the feeds
pub record HasCountedShares (s : Layout) (sources : SourceBytes) (conditions : List Condition)
    (counters : Vec CounterView) (wholes : List (Gatherer (Vec CounterView))) : Type 0 where
  pub whole : Gatherer (Vec CounterView)
  pub one : wholes ≡ whole ∷ []
  pub feeds : List (List Item)
  pub items : AllZip (AreItemsOf s) sources feeds
  pub takes : TakesFeeds (StandInShares counter_sources CounterStandsFrom counters) feeds whole
  pub some : 0 < length whole.builder.items
  pub under : AreUnspent whole.builder.items → All (IsUnder s conditions) whole.builder.items
  pub together : AreUnspent whole.builder.items → StandTogether s (ledgers_of counters.items)
      (ledgers_of whole.builder.items) (of_sources (length sources) takes.arrivals)

-- the counters were under the schema and the conditions
new-under : (s : Layout) (sources shares : ℕ) (conditions : List Condition) (counters : List CounterView)
    → AreNewCounters s sources shares conditions counters → All (IsUnder s conditions) counters
new-under s sources shares conditions counters new = λ k d inside.
    let is = new.each k d inside in record { schema = is.schema; conditions_are = is.conditions_are }

new-schema : (s : Layout) (conditions : List Condition) (counters : List CounterView)
    → All (IsUnder s conditions) counters → All (λ (l : LedgerView). l.schema ≡ s) (ledgers_of counters)
new-schema s conditions [] under = All-nil (λ (l : LedgerView). l.schema ≡ s)
new-schema s conditions (counter ∷ counters) under =
    All-cons (λ (l : LedgerView). l.schema ≡ s) counter.ledger (ledgers_of counters)
    (All-head (IsUnder s conditions) counter counters under).schema
    (new-schema s conditions counters (All-tail (IsUnder s conditions) counter counters under))

pub counted-shares : (s : Layout) (sources : SourceBytes) (shares : ℕ) (conditions : List Condition)
    (counters : Vec CounterView) (wholes : List (Gatherer (Vec CounterView))) → 1 ≤ shares
    → AreNewCounters s (length sources) shares conditions counters.items
    → TakeAll (StandInShares counter_sources CounterStandsFrom) s sources (counters ∷ []) wholes
    → HasCountedShares s sources conditions counters wholes
counted-shares s sources shares conditions counters [] some new taken = absurd taken.each
counted-shares s sources shares conditions counters (x ∷ y ∷ ys) some new taken = absurd taken.each.1
counted-shares s sources shares conditions counters (whole ∷ []) some new taken = record {
  whole = whole;
  one = refl;
  feeds = taken.feeds;
  items = taken.items;
  takes = taken.each.0;
  some = omega (arith, some, new.counted, as-many counters.items whole.builder.items feeds stand);
  under = λ unspent. counters-under s conditions counters.items whole.builder.items feeds stand unspent under;
  together = λ unspent. stand-together s (ledgers_of counters.items) (ledgers_of whole.builder.items) feeds
      (ledgers-stand counters.items whole.builder.items feeds stand unspent)
      (new-schema s conditions counters.items under);
} where
  feeds : List (List Item)
  feeds = of_sources (length sources) taken.each.0.arrivals

  under : All (IsUnder s conditions) counters.items
  under = new-under s (length sources) shares conditions counters.items new

  stand : StandAtShares counter_sources CounterStandsFrom counters.items whole.builder.items feeds
  stand = subst (λ (n : ℕ). StandAtShares counter_sources CounterStandsFrom counters.items whole.builder.items
      (of_sources n taken.each.0.arrivals)) new.together taken.each.0.stands_at

-- as many sources
sources-together : (s : Layout) (olds news : List CounterView) (feeds : List (List Item))
    → StandTogether s (ledgers_of olds) (ledgers_of news) feeds
    → sum_by counter_sources news ≡ sum_by counter_sources olds
sources-together s olds news feeds together =
    sym (sum_by-map (λ (c : CounterView). c.ledger) sources_of news) ∙ together.sources
    ∙ sum_by-map (λ (c : CounterView). c.ledger) sources_of olds

-- they can be put together
pub may-join : (s : Layout) (sources : SourceBytes) (shares : ℕ) (conditions : List Condition)
    (counters : Vec CounterView) (wholes : List (Gatherer (Vec CounterView))) → length sources ≤ 64
    → AreNewCounters s (length sources) shares conditions counters.items
    → (taken : HasCountedShares s sources conditions counters wholes) → AreUnspent taken.whole.builder.items
    → MayJoin taken.whole.builder.items
may-join s sources shares conditions counters wholes few new taken unspent = record {
  some = taken.some;
  schema = s;
  conditions = conditions;
  under = taken.under unspent;
  most = omega (
    arith,
    few,
    new.together,
    sources-together s counters.items taken.whole.builder.items
        (of_sources (length sources) taken.takes.arrivals) (taken.together unspent),
  );
}

-- the one counter has taken the feeds of all sources
pub counts-in-shares : (s : Layout) (sources : SourceBytes) (shares : ℕ) (conditions : List Condition)
    (counters : Vec CounterView) (wholes : List (Gatherer (Vec CounterView))) (whole : Gatherer (Vec CounterView))
    (gatherer : Gatherer CounterView) → AreGood s sources
    → AreNewCounters s (length sources) shares conditions counters.items
    → (taken : HasCountedShares s sources conditions counters wholes) → whole ≡ taken.whole
    → IsGathererOf whole gatherer → CountsFeeds s conditions sources gatherer
counts-in-shares s sources shares conditions counters wholes whole gatherer good new taken same is =
    let n = length sources in
    let counter = gatherer.builder in
    let unspent : AreUnspent taken.whole.builder.items =
    subst (λ (w : Gatherer (Vec CounterView)). AreUnspent w.builder.items) same is.counter.all_unspent in
    let of : IsCounterOf taken.whole.builder.items counter =
    subst (λ (w : Gatherer (Vec CounterView)). IsCounterOf w.builder.items counter) same is.counter in
    let together = taken.together unspent in
    let under = of.under s conditions (taken.under unspent) in
    let feeds = of_sources n taken.takes.arrivals in
    let all : length counter.ledger.accounts ≡ n =
    length-of taken.whole.builder.items counter of
    ∙ sources-together s counters.items taken.whole.builder.items feeds together ∙ new.together in
    let stand : AllZip (AccountStandsAt s) feeds counter.ledger.accounts =
    subst (AllZip (AccountStandsAt s) feeds) (sym of.accounts) together.stand in
    record {
      good = good;
      counter = record {
        is_spent = false;
        conditions = conditions;
        ledger = record { schema = s; accounts = replicate n new_account };
      };
      new = record { conditions_are = refl; schema = refl; accounts = refl };
      feeds = taken.feeds;
      items = taken.items;
      takes = record {
        arrivals = taken.takes.arrivals;
        same = taken.takes.same;
        stands_at = λ _. record {
          schema = under.schema;
          all = all ∙ sym (length-replicate n new_account);
          conditions = under.conditions_are;
          stands_at = rw (under.schema, all) stand;
        };
        received = rw (is.inlets ∙ ap (λ (w : Gatherer (Vec CounterView)). w.inlets) same) taken.takes.received;
      };
    }
