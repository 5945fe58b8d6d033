-- Counters: what an item does to the ledger that clauses see, and what a run has counted.
use Rattle.std.proofs.Common.{◌≡◌, ◌<◌, ◌≤◌, ◌-◌, ℕ, zero, suc, Bool, true, false, List, [], ◌∷◌, ◌++◌}
use Rattle.std.proofs.Common.{length, get_or, map, replicate, refl, sym, ap, ◌∙◌, subst, arith, inl, inr}
use Rattle.std.proofs.Common.{get_or-set_other, get_or-set_same, IsPermutation}
use Rattle.std.specs.Prelude.{Some, None, Ok, Err, slice_set, All, ◌==◌, if◌then◌else◌}
use Rattle.std.specs.List.{AllByRecursion, IsDistinct}
use Rattle.std.specs.Map.{keys_of}
use Rattle.std.specs.Str.{bytes_eq}
use Rattle.std.specs.Cmp.Lexicographic.{nat_list_eq_equiv}
use Rattle.std.proofs.Math.ListN.{length-set}
use Rattle.std.proofs.lemmas.Bool.{cases_Bool, cases_eq, eqb-true, false_from_ne_true}
use Rattle.std.proofs.lemmas.List.{get_or-replicate, length-map, length-replicate}
use Rattle.std.proofs.lemmas.List.Elements.{All-append, All-cons, All-filter, All-head, All-nil, All-tail, All-weaker}
use Rattle.std.proofs.lemmas.List.Elements.{filter-append}
use Rattle.std.proofs.lemmas.List.Sorted.{All-permutation, IsPermutation-refl}
use Rattle.std.proofs.lemmas.Map.Keys.{IsDistinct-cons}
use Rattle.std.proofs.lemmas.Slice.Eq.{bytes_eq-Decides}
use Rattle.cube_core.specs.Arrival.{Arrivals}
use Rattle.cube_core.specs.Conditions.{hold, of_interest}
use Rattle.cube_core.specs.Layout.{Layout, number_of_dimensions}
use Rattle.cube_core.specs.Refusals.{code_of_fault}
use Rattle.cube_core.specs.Run.{SourceBytes, AreGood}
use Rattle.cube_core.specs.Takes.{fits, is_id}
use Rattle.cube_core.specs.declared.change.Change.TheVariants.{Insert}
use Rattle.cube_core.specs.declared.change.Item.{Item}
use Rattle.cube_core.specs.declared.change.LineFault.{LineFault}
use Rattle.cube_core.specs.declared.change.Refusal.{Refusal}
use Rattle.cube_core.specs.declared.condition.Condition.{Condition}
use Rattle.cube_core.specs.declared.fact.Fact.{Fact}
use Rattle.cube_core.proofs.CubeSchemaLaws.{cube_schema-dimensions}
use Rattle.cube_core.proofs.ListLaws.{AllZip-length}
use Rattle.cube_core.proofs.ReorderedLaws.{filter-IsPermutation}
use Rattle.cube_core.proofs.TextSchemaLaws.{cube_schema-none}
use Rattle.cube_cells.specs.Cube.{AddsFact, IsCubeOf, IsNewLattice, Lattice}
use Rattle.cube_cells.specs.Fill.{IsCubeOfAll, finest_set}
use Rattle.cube_ledger.specs.Book.{Entries, IsBook, fact_at, facts_of}
use Rattle.cube_ledger.specs.Interest.{ledger_of_interest}
use Rattle.cube_ledger.specs.Ledger.{AccountView, AllFit, AtSource, Enters, Exchanges, LedgerView, account_of}
use Rattle.cube_ledger.specs.Ledger.{all_facts, new_account, refusal, with_refusal}
use Rattle.cube_ledger.proofs.InterestLaws.{all_facts-of_interest, refusals-of_interest}
use Rattle.cube_ledger.proofs.LedgerLaws.{all_facts-exchange, all_facts-new}
use Rattle.cube_ledger.proofs.StandLaws.{LedgerStandsAt-Enters, LedgerStandsAt-new}
use Rattle.cube_rings.specs.FeedingAll.{IsNew, TakeAll, TakesFeeds}
use Rattle.cube_rings.specs.declared.gatherer.Gatherer.{Gatherer}
use Rattle.cube_build.specs.Builder.{BuilderView, GainsFacts}
use Rattle.cube_build.specs.Counting.{AreCountsOf, AreRefusedOf, AreWeighed, CounterStandsFrom, CounterView}
use Rattle.cube_build.specs.Counting.{AreCounts, CountsItem, CountsNoText, HaveFactsOf, IsCounted, IsCounter}
use Rattle.cube_build.specs.Counting.{IsOneCounter, IsWeighed, putting}
use Rattle.cube_build.specs.Counting.{refusing, weight_of, with_account, with_entry}
use Rattle.cube_build.specs.CountedRun.{CountsFeeds}
use Rattle.cube_build.proofs.FactLaws.{CountsFacts-add, CountsFacts-permutation, HasFacts-plain}

-- ---- a line fault

-- an account takes it by noting it
enters-fault : (s : Layout) (number : ℕ) (fault : LineFault) (account : AccountView) (code : ℕ)
    → code_of_fault s fault ≡ code
    → Enters s (record { number = number; what = Err fault }) account (with_refusal account number code)
enters-fault s number fault account code is = record {
  refused = λ other coded.
      let same : code ≡ other = cc (sym is, coded) in ap (with_refusal account number) same;
  taken = λ change says lawful. cc says;
}

-- ---- an insert

-- an entry's id weighs no more than this
abbrev Light : ℕ → List ℕ × Fact → Type 0
Light weight entry = weight_of entry.0 ≤ weight

-- of an id that weighs more than all there is no fact
absent-heavier : (weight : ℕ) (book : Entries) (id : List ℕ) → All (Light weight) book
    → weight < weight_of id → fact_at book id ≡ None
absent-heavier weight [] id within heavier = refl
absent-heavier weight (e ∷ book) id within heavier = elim (cases_Bool (bytes_eq id e.0)) [
  | inl same ↦
      let is : weight_of id ≡ weight_of e.0 = ap weight_of ((bytes_eq-Decides id e.0).0 same) in
      let light : weight_of e.0 ≤ weight = All-head (Light weight) e book within in
      absurd (omega (arith, is, light, heavier))
  | inr apart ↦ rw apart (absent-heavier weight book id
      (All-tail (Light weight) e book within) heavier)
]

-- and it differs from each id
apart-heavier : (weight : ℕ) (book : Entries) (id : List ℕ) → All (Light weight) book
    → weight < weight_of id → AllByRecursion (λ other. bytes_eq id other ≡ false) (keys_of book)
apart-heavier weight [] id within heavier = tt
apart-heavier weight (e ∷ book) id within heavier =
    let light : weight_of e.0 ≤ weight = All-head (Light weight) e book within in (
      elim (cases_Bool (bytes_eq id e.0)) [
        | inl same ↦
            let is : weight_of id ≡ weight_of e.0 = ap weight_of ((bytes_eq-Decides id e.0).0 same) in
            absurd (omega (arith, is, light, heavier))
        | inr apart ↦ apart
      ],
      apart-heavier weight book id (All-tail (Light weight) e book within) heavier,
    )

-- an account with a fact more has it under an id that was absent
exchanges-entry : (account : AccountView) (id : List ℕ) (fact : Fact) → fact_at account.book id ≡ None
    → IsBook (with_entry account id fact).book → Exchanges id None (Some fact) account (with_entry account id fact)
exchanges-entry account id fact absent once = record {
  book = record {
    was = sym absent;
    facts = λ other. ap (λ (b : Bool). if b then Some fact else fact_at account.book other)
        (nat_list_eq_equiv.symm other id);
    moved = IsPermutation-refl (fact ∷ facts_of account.book);
    each_once = once;
  };
  refusals = refl;
}

-- an account takes an insert of such an id by putting the fact
enters-entry : (s : Layout) (number : ℕ) (account : AccountView) (id : List ℕ) (fact : Fact) → is_id id ≡ true
    → fits s fact ≡ true → fact_at account.book id ≡ None
    → Exchanges id None (Some fact) account (with_entry account id fact)
    → Enters s (record { number = number; what = Ok (Insert id fact) }) account (with_entry account id fact)
enters-entry s number account id fact lawful fit absent exchanged = record {
  refused = λ code coded. cc (rw (lawful, fit, absent) at coded);
  taken = λ change says taken.
      let is : Insert id fact ≡ change = cc says in
      rw (← is, absent) exchanged;
}

-- ---- what one account does to a ledger

at-account : (Changes : AccountView → AccountView → Type 0) (ledger : LedgerView) (source : ℕ) (account : AccountView)
    → Changes (account_of ledger source) account → AtSource Changes source ledger (with_account ledger source account)
at-account Changes ledger source account changes =
    record { account = account; changed = changes; accounts = refl; schema = refl }

-- the facts of a ledger in which the book of an account stays
all_facts-same : (accounts : List AccountView) (place : ℕ) (account : AccountView)
    → account.book ≡ (get_or accounts place new_account).book
    → all_facts (slice_set accounts place account) ≡ all_facts accounts
all_facts-same [] place account same = refl
all_facts-same (a ∷ accounts) zero account same =
    ap (λ (book : Entries). facts_of book ++ all_facts accounts) same
all_facts-same (a ∷ accounts) (suc place) account same =
    ap (λ (facts : List Fact). facts_of a.book ++ facts) (all_facts-same accounts place account same)

-- the refusals of a ledger in which those of an account stay
refusals-same : (accounts : List AccountView) (place : ℕ) (account : AccountView)
    → account.refusals ≡ (get_or accounts place new_account).refusals
    → map (λ (a : AccountView). a.refusals) (slice_set accounts place account)
    ≡ map (λ (a : AccountView). a.refusals) accounts
refusals-same [] place account same = refl
refusals-same (a ∷ accounts) zero account same =
    ap (λ (refusals : List Refusal). refusals ∷ map (λ (b : AccountView). b.refusals) accounts) same
refusals-same (a ∷ accounts) (suc place) account same =
    ap (λ (all : List (List Refusal)). a.refusals ∷ all) (refusals-same accounts place account same)

-- those of ledgers with the same refusals, in which an item more is refused
refusals-more : (ones others : List AccountView) (place number code : ℕ)
    → map (λ (a : AccountView). a.refusals) ones ≡ map (λ (a : AccountView). a.refusals) others
    → map (λ (a : AccountView). a.refusals)
    (slice_set ones place (with_refusal (get_or ones place new_account) number code))
    ≡ map (λ (a : AccountView). a.refusals)
    (slice_set others place (with_refusal (get_or others place new_account) number code))
refusals-more [] [] place number code same = refl
refusals-more [] (b ∷ others) place number code same = cc same
refusals-more (a ∷ ones) [] place number code same = cc same
refusals-more (a ∷ ones) (b ∷ others) zero number code same =
    let first : a.refusals ≡ b.refusals = cc same in
    let rest : map (λ (x : AccountView). x.refusals) ones ≡ map (λ (x : AccountView). x.refusals) others = cc same in
    λ i. (first i ++ refusal number code ∷ []) ∷ rest i
refusals-more (a ∷ ones) (b ∷ others) (suc place) number code same =
    let first : a.refusals ≡ b.refusals = cc same in
    let rest : map (λ (x : AccountView). x.refusals) ones ≡ map (λ (x : AccountView). x.refusals) others = cc same in
    λ i. first i ∷ refusals-more ones others place number code rest i

-- as many accounts
pub long-refused : (refused ledger : LedgerView) → AreRefusedOf refused ledger
    → length refused.accounts ≡ length ledger.accounts
long-refused refused ledger are =
    sym (length-map refused.accounts (λ (a : AccountView). a.refusals)) ∙ ap length are.refusals
    ∙ length-map ledger.accounts (λ (a : AccountView). a.refusals)

pub long-account : (ledger : LedgerView) (source : ℕ) (account : AccountView)
    → length (with_account ledger source account).accounts ≡ length ledger.accounts
long-account ledger source account = length-set ledger.accounts (source - 1) account

-- the weights where one account changes
weighed-set : (weights : List ℕ) (accounts : List AccountView) (place weight : ℕ) (account : AccountView)
    → length weights ≡ length accounts → place < length accounts → IsWeighed weight account
    → AreWeighed weights accounts → AreWeighed (slice_set weights place weight) (slice_set accounts place account)
weighed-set weights accounts place weight account long within is are = λ other below.
    elim (cases_eq other place) [
      | inl here ↦
          let inside : place < length weights = omega (arith, long, within) in
          rw (
            here,
            get_or-set_same weights place weight 0 inside,
            get_or-set_same accounts place account new_account within,
          ) is
      | inr apart ↦
          rw (
            get_or-set_other weights place other weight 0 apart,
            get_or-set_other accounts place other account new_account apart,
          ) (are other (omega (arith, length-set accounts place account, below)))
    ]

-- the weights where a book stays
weighed-same : (weights : List ℕ) (accounts : List AccountView) (place : ℕ) (account : AccountView)
    → place < length accounts → account.book ≡ (get_or accounts place new_account).book
    → AreWeighed weights accounts → AreWeighed weights (slice_set accounts place account)
weighed-same weights accounts place account within same are = λ other below.
    elim (cases_eq other place) [
      | inl here ↦
          let was = are place within in
          rw (here, get_or-set_same accounts place account new_account within) (record {
            each_once = rw same was.each_once;
            within = rw same was.within;
          })
      | inr apart ↦
          rw (get_or-set_other accounts place other account new_account apart)
          (are other (omega (arith, length-set accounts place account, below)))
    ]

-- ---- a line fault is noted

pub refused-more : (refused next ledger : LedgerView) (source number code : ℕ)
    → AtSource (λ old new. new ≡ with_refusal old number code) source refused next → AreRefusedOf refused ledger
    → AreRefusedOf next (refusing ledger source number code)
refused-more refused next ledger source number code at are = record {
  schema = at.schema ∙ are.schema;
  refusals =
      ap (map (λ (a : AccountView). a.refusals))
      (at.accounts ∙ ap (slice_set refused.accounts (source - 1)) at.changed)
      ∙ refusals-more refused.accounts ledger.accounts (source - 1) number code are.refusals;
}

pub counted-refusing : (conditions : List Condition) (ledger : LedgerView) (source number code : ℕ) (weights : List ℕ)
    (cube : Lattice) → 1 ≤ source → source ≤ length ledger.accounts → IsCounted conditions ledger weights cube
    → IsCounted conditions (refusing ledger source number code) weights cube
counted-refusing conditions ledger source number code weights cube first last is =
    let account = with_refusal (account_of ledger source) number code in
    let same : all_facts (slice_set ledger.accounts (source - 1) account) ≡ all_facts ledger.accounts =
    all_facts-same ledger.accounts (source - 1) account refl in
    record {
      fit = rw same is.fit;
      counts = rw same is.counts;
      sets = is.sets;
      weighed = weighed-same weights ledger.accounts (source - 1) account (omega (arith, first, last)) refl is.weighed;
    }

pub counts-fault : (old new : CounterView) (source number : ℕ) (fault : LineFault) (code : ℕ) → old.is_spent ≡ false
    → new.conditions ≡ old.conditions → new.ledger ≡ refusing old.ledger source number code
    → code_of_fault old.ledger.schema fault ≡ code
    → CountsItem source (record { number = number; what = Err fault }) old new
counts-fault old new source number fault code before same is coded = record {
  before = before;
  conditions = same;
  enters = rw is
      (at-account (Enters old.ledger.schema (record { number = number; what = Err fault })) old.ledger source
      (with_refusal (account_of old.ledger source) number code)
      (enters-fault old.ledger.schema number fault (account_of old.ledger source) code coded));
}

-- ---- a fact is put

-- an id that weighs something isn't empty
is_id-heavy : (weight : ℕ) (id : List ℕ) → weight < weight_of id → is_id id ≡ true
is_id-heavy weight [] heavier = absurd (omega (arith, heavier))
is_id-heavy weight (byte ∷ id) heavier =
    let some : (length (byte ∷ id) == 0) ≡ false = false_from_ne_true (length (byte ∷ id) == 0)
    (λ same. absurd (omega (arith, eqb-true (length (byte ∷ id)) 0 same))) in
    rw some refl

-- what is known of a counter before an insert: its account weighs less than the id
pub record MayPut (ledger : LedgerView) (weights : List ℕ) (source : ℕ) (id : List ℕ) : Type 0 where
  pub first : 1 ≤ source
  pub last : source ≤ length ledger.accounts
  pub long : length weights ≡ length ledger.accounts
  pub heavier : get_or weights (source - 1) 0 < weight_of id

-- an account with the entry
entry-weighed : (weight : ℕ) (account : AccountView) (id : List ℕ) (fact : Fact) → IsWeighed weight account
    → weight < weight_of id → IsWeighed (weight_of id) (with_entry account id fact)
entry-weighed weight account id fact is heavier = record {
  each_once = IsDistinct-cons bytes_eq id (keys_of account.book)
      (apart-heavier weight account.book id is.within heavier) is.each_once;
  within = All-cons (Light (weight_of id)) (id, fact) account.book (omega arith)
      (All-weaker (Light weight) (Light (weight_of id)) (λ entry light. omega (arith, light, heavier)) account.book
      is.within);
}

pub put-exchanges : (ledger : LedgerView) (weights : List ℕ) (source : ℕ) (id : List ℕ) (fact : Fact)
    → MayPut ledger weights source id → AreWeighed weights ledger.accounts
    → AtSource (Exchanges id None (Some fact)) source ledger (putting ledger source id fact)
put-exchanges ledger weights source id fact may are =
    let place : source - 1 < length ledger.accounts = omega (arith, may.first, may.last) in
    let weighed = are (source - 1) place in
    let account = account_of ledger source in
    at-account (Exchanges id None (Some fact)) ledger source (with_entry account id fact)
    (exchanges-entry account id fact
    (absent-heavier (get_or weights (source - 1) 0) account.book id weighed.within may.heavier)
    (entry-weighed (get_or weights (source - 1) 0) account id fact weighed may.heavier).each_once)

pub counted-putting : (conditions : List Condition) (ledger : LedgerView) (source : ℕ) (id : List ℕ) (fact : Fact)
    (weights : List ℕ) (old new : Lattice) → MayPut ledger weights source id → fits ledger.schema fact ≡ true
    → GainsFacts (of_interest conditions (fact ∷ [])) old new → IsCounted conditions ledger weights old
    → IsCounted conditions (putting ledger source id fact) (slice_set weights (source - 1) (weight_of id)) new
counted-putting conditions ledger source id fact weights old new may fit gains is =
    let next = putting ledger source id fact in
    let place : source - 1 < length ledger.accounts = omega (arith, may.first, may.last) in
    let one = of_interest conditions (fact ∷ []) in
    let kept = of_interest conditions (all_facts ledger.accounts) in
    let moved : IsPermutation (fact ∷ all_facts ledger.accounts) (all_facts next.accounts) =
    all_facts-exchange ledger next source id None (Some fact) may.first may.last
    (put-exchanges ledger weights source id fact may is.weighed) in
    let split : of_interest conditions (fact ∷ all_facts ledger.accounts) ≡ one ++ kept =
    filter-append (hold conditions) (fact ∷ []) (all_facts ledger.accounts) in
    let same : IsPermutation (one ++ kept) (of_interest conditions (all_facts next.accounts)) =
    subst (λ (facts : List Fact). IsPermutation facts (of_interest conditions (all_facts next.accounts))) split
    (filter-IsPermutation (hold conditions) (fact ∷ all_facts ledger.accounts) (all_facts next.accounts) moved) in
    let Fits : Fact → Type 0 = λ f. fits ledger.schema f ≡ true in
    record {
      fit = All-permutation Fits (one ++ kept) (of_interest conditions (all_facts next.accounts)) same
          (All-append Fits one kept
          (All-filter (hold conditions) Fits (fact ∷ []) (All-cons Fits fact [] fit (All-nil Fits))) is.fit);
      counts = CountsFacts-permutation (one ++ kept) (of_interest conditions (all_facts next.accounts)) new same
          (gains.counts kept is.counts);
      sets =
          gains.same.sets ∙ is.sets
          ∙ ap (λ (s : Layout). finest_set (length s.dimensions) ∷ []) (sym gains.same.schema);
      weighed = weighed-set weights ledger.accounts (source - 1) (weight_of id)
          (with_entry (account_of ledger source) id fact) may.long place
          (entry-weighed (get_or weights (source - 1) 0) (account_of ledger source) id fact
          (is.weighed (source - 1) place) may.heavier) is.weighed;
    }

-- the refusals stay
pub refused-putting : (refused ledger : LedgerView) (source : ℕ) (id : List ℕ) (fact : Fact)
    → AreRefusedOf refused ledger → AreRefusedOf refused (putting ledger source id fact)
refused-putting refused ledger source id fact are = record {
  schema = are.schema;
  refusals =
      are.refusals
      ∙ sym (refusals-same ledger.accounts (source - 1) (with_entry (account_of ledger source) id fact) refl);
}

pub counts-put : (old new : CounterView) (weights : List ℕ) (source number : ℕ) (id : List ℕ) (fact : Fact)
    → old.is_spent ≡ false → new.conditions ≡ old.conditions → new.ledger ≡ putting old.ledger source id fact
    → MayPut old.ledger weights source id → AreWeighed weights old.ledger.accounts
    → fits old.ledger.schema fact ≡ true
    → CountsItem source (record { number = number; what = Ok (Insert id fact) }) old new
counts-put old new weights source number id fact before same is may are fit =
    let place : source - 1 < length old.ledger.accounts = omega (arith, may.first, may.last) in
    let weighed = are (source - 1) place in
    let account = account_of old.ledger source in
    let absent =
    absent-heavier (get_or weights (source - 1) 0) account.book id weighed.within may.heavier in
    record {
      before = before;
      conditions = same;
      enters = rw is
          (at-account (Enters old.ledger.schema (record { number = number; what = Ok (Insert id fact) })) old.ledger
          source (with_entry account id fact)
          (enters-entry old.ledger.schema number account id fact
          (is_id-heavy (get_or weights (source - 1) 0) id may.heavier) fit absent
          (exchanges-entry account id fact absent
          (entry-weighed (get_or weights (source - 1) 0) account id fact weighed may.heavier).each_once)));
    }

-- ---- a fact is added, where it is of interest

pub gains-none : (conditions : List Condition) (fact : Fact) (cube : Lattice) → hold conditions fact ≡ false
    → GainsFacts (of_interest conditions (fact ∷ [])) cube cube
gains-none conditions fact cube other = rw other (record {
  same = record { schema = refl; sets = refl };
  counts = λ before counts. counts;
})

pub gains-fact : (conditions : List Condition) (fact : Fact) (old new : Lattice) → hold conditions fact ≡ true
    → AddsFact fact old new → ((before : List Fact) → IsCubeOf old before → IsCubeOf new (fact ∷ before))
    → GainsFacts (of_interest conditions (fact ∷ [])) old new
gains-fact conditions fact old new holds adds cells = rw holds (record {
  same = adds.same;
  counts = λ before counts. CountsFacts-add fact before old new adds cells counts;
})

-- ---- a counter takes items

-- further on after an item
pub counter-further : (old new : CounterView) (source : ℕ) (item : Item) → 1 ≤ source
    → source ≤ length old.ledger.accounts → length new.ledger.accounts ≡ length old.ledger.accounts
    → CountsItem source item old new → (first : CounterView) (arrivals : Arrivals)
    → CounterStandsFrom first old arrivals → CounterStandsFrom first new (arrivals ++ (source, item) ∷ [])
counter-further old new source item some last all counts first arrivals stands = λ unspent.
    let at = stands counts.before in
    record {
      schema = counts.enters.schema ∙ at.schema;
      all = all ∙ at.all;
      conditions = counts.conditions ∙ at.conditions;
      stands_at =
          LedgerStandsAt-Enters old.ledger new.ledger source item some last counts.enters arrivals at.stands_at;
    }

-- ---- a new counter

pub weighed-new : (sources : ℕ) (weights : List ℕ) (accounts : List AccountView)
    → accounts ≡ replicate sources new_account → AreWeighed weights accounts
unfolding IsDistinct
weighed-new sources weights accounts are = λ place below.
    let inside : place < sources = omega (arith, ap length are, length-replicate sources new_account, below) in
    rw (are, get_or-replicate sources place new_account new_account inside) (record {
      each_once = tt;
      within = All-nil (Light (get_or weights place 0));
    })

pub counted-new : (conditions : List Condition) (ledger : LedgerView) (sources : ℕ) (weights : List ℕ) (cube : Lattice)
    (schema : Layout) → ledger.accounts ≡ replicate sources new_account
    → IsNewLattice schema (finest_set (number_of_dimensions schema) ∷ []) cube → IsCubeOf cube []
    → IsCounted conditions ledger weights cube
counted-new conditions ledger sources weights cube schema are new cells =
    let none : all_facts ledger.accounts ≡ [] = ap all_facts are ∙ all_facts-new sources in
    record {
      fit = rw none (All-nil (λ fact. fits ledger.schema fact ≡ true));
      counts = rw none (record { cells = cells; facts_are = new.no_facts });
      sets =
          new.sets_are
          ∙ ap (λ (n : ℕ). finest_set n ∷ [])
          (sym (ap (λ (s : Layout). length s.dimensions) new.schema_is ∙ cube_schema-dimensions schema));
      weighed = weighed-new sources weights ledger.accounts are;
    }

-- counters that have taken nothing
pub new-counters : (s : Layout) (sources : ℕ) (conditions : List Condition) (counters : List CounterView)
    → IsOneCounter s sources conditions counters
    → All (IsNew (λ (counter : CounterView). length counter.ledger.accounts) CounterStandsFrom sources) counters
new-counters s sources conditions counters one =
    let counter = one.counter in
    let New : CounterView → Type 0 =
    IsNew (λ (c : CounterView). length c.ledger.accounts) CounterStandsFrom sources in
    subst (All New) (sym one.one) (All-cons New counter []
    (record {
      sources_are = ap length one.new.accounts ∙ length-replicate sources new_account;
      stands_at = λ unspent. record {
        schema = refl;
        all = refl;
        conditions = refl;
        stands_at = LedgerStandsAt-new counter.ledger sources one.new.accounts;
      };
    }) (All-nil New))

-- ---- what is true of a counter

-- one for which memory hasn't run out
pub counter-unspent : (b : Bool) (conditions : List Condition) (refused ledger : LedgerView) (weights : List ℕ)
    (cube : Lattice) → b ≡ false → IsCounter b conditions refused ledger weights cube
    → IsCounter false conditions refused ledger weights cube
counter-unspent b conditions refused ledger weights cube unspent is =
    subst (λ (s : Bool). IsCounter s conditions refused ledger weights cube) unspent is

-- one for which memory ran out
pub counter-spent : (b : Bool) (conditions : List Condition) (refused ledger : LedgerView) (weights : List ℕ)
    (cube next : Lattice) → next.schema ≡ cube.schema → IsCounter b conditions refused ledger weights cube
    → IsCounter true conditions refused ledger weights next
counter-spent b conditions refused ledger weights cube next same is = record {
  noted = is.noted;
  plain = is.plain;
  schema = same ∙ is.schema;
  long = is.long;
  counted = λ never. cc never;
}

-- one that noted a line fault
pub counter-refusing : (conditions : List Condition) (refused next ledger : LedgerView) (source number code : ℕ)
    (weights : List ℕ) (cube : Lattice) → 1 ≤ source → source ≤ length ledger.accounts
    → AtSource (λ old new. new ≡ with_refusal old number code) source refused next
    → IsCounter false conditions refused ledger weights cube
    → IsCounter false conditions next (refusing ledger source number code) weights cube
counter-refusing conditions refused next ledger source number code weights cube first last at is = record {
  noted = refused-more refused next ledger source number code at is.noted;
  plain = is.plain;
  schema = is.schema;
  long = is.long ∙ sym (long-account ledger source (with_refusal (account_of ledger source) number code));
  counted = λ unspent.
      counted-refusing conditions ledger source number code weights cube first last (is.counted refl);
}

-- one that put a fact
pub counter-putting : (conditions : List Condition) (refused ledger : LedgerView) (source : ℕ) (id : List ℕ)
    (fact : Fact) (weights : List ℕ) (old new : Lattice) → MayPut ledger weights source id
    → fits ledger.schema fact ≡ true → GainsFacts (of_interest conditions (fact ∷ [])) old new
    → IsCounter false conditions refused ledger weights old
    → IsCounter false conditions refused (putting ledger source id fact)
    (slice_set weights (source - 1) (weight_of id)) new
counter-putting conditions refused ledger source id fact weights old new may fit gains is = record {
  noted = refused-putting refused ledger source id fact is.noted;
  plain = is.plain;
  schema = gains.same.schema ∙ is.schema;
  long =
      length-set weights (source - 1) (weight_of id) ∙ is.long
      ∙ sym (long-account ledger source (with_entry (account_of ledger source) id fact));
  counted = λ unspent.
      counted-putting conditions ledger source id fact weights old new may fit gains (is.counted refl);
}

-- a new one
pub counter-new : (conditions : List Condition) (refused ledger : LedgerView) (sources : ℕ) (weights : List ℕ)
    (s : Layout) (cube : Lattice) → ledger ≡ refused → refused.accounts ≡ replicate sources new_account
    → length weights ≡ sources → s ≡ refused.schema → CountsNoText s
    → IsNewLattice s (finest_set (number_of_dimensions s) ∷ []) cube → IsCubeOf cube []
    → IsCounter false conditions refused ledger weights cube
counter-new conditions refused ledger sources weights s cube same are long schema plain new cells = rw same (record {
  noted = record { schema = refl; refusals = refl };
  plain = subst CountsNoText schema plain;
  schema = new.schema_is ∙ cube_schema-none s plain.none ∙ schema;
  long = long ∙ sym (ap length are ∙ length-replicate sources new_account);
  counted = λ unspent. counted-new conditions refused sources weights cube s are new cells;
})

-- its cube has all facts of interest
pub finest-all : (conditions : List Condition) (refused ledger : LedgerView) (weights : List ℕ) (cube : Lattice)
    → IsCounter false conditions refused ledger weights cube
    → IsCubeOfAll (of_interest conditions (all_facts ledger.accounts)) cube
finest-all conditions refused ledger weights cube is =
    let counted = is.counted refl in
    record {
      fit = subst (λ (s : Layout). AllFit s (of_interest conditions (all_facts ledger.accounts))) (sym is.schema)
          counted.fit;
      cells = counted.counts.cells;
      facts_are = counted.counts.facts_are;
    }

-- which are those of the ledger that is kept
counter-has : (conditions : List Condition) (refused ledger : LedgerView) (weights : List ℕ) (cube : Lattice)
    → IsCounter false conditions refused ledger weights cube → HaveFactsOf (ledger_of_interest conditions ledger) cube
counter-has conditions refused ledger weights cube is =
    let counted = is.counted refl in
    let kept = of_interest conditions (all_facts ledger.accounts) in
    record {
      schema = is.schema ∙ sym (cube_schema-none ledger.schema is.plain.none);
      has = rw (all_facts-of_interest conditions ledger.accounts)
          (HasFacts-plain ledger.schema kept cube is.plain.schema is.plain.none counted.fit counted.counts);
    }

-- what is kept of its ledger is counted in its cube
pub kept-counts : (conditions : List Condition) (refused ledger kept : LedgerView) (weights : List ℕ) (cube : Lattice)
    → kept ≡ ledger_of_interest conditions ledger
    → IsCounter false conditions refused ledger weights cube → AreCounts refused kept cube
kept-counts conditions refused ledger kept weights cube same is = rw same (record {
  noted = record {
    schema = is.noted.schema;
    refusals = is.noted.refusals ∙ sym (refusals-of_interest conditions ledger.accounts);
  };
  cells = counter-has conditions refused ledger weights cube is;
})

-- and these are its counts
pub counts-of : (counter : CounterView) (refused : LedgerView) (weights : List ℕ) (cube : Lattice)
    (counts : BuilderView) → counter.is_spent ≡ false
    → counts.ledger ≡ ledger_of_interest counter.conditions counter.ledger → counts.cube ≡ cube
    → IsCounter false counter.conditions refused counter.ledger weights cube → AreCountsOf counter counts
counts-of counter refused weights cube counts unspent kept there is = record {
  unspent = unspent;
  are = record {
    ledger_is = kept;
    finest = rw there (is.counted refl).sets;
    has = rw there (counter-has counter.conditions refused counter.ledger weights cube is);
  };
}

-- ---- what a run has counted

-- there is what was gathered
pub gathered-some : (s : Layout) (sources : SourceBytes) (count : ℕ) (conditions : List Condition)
    (counters : List CounterView) (gatherers : List (Gatherer CounterView))
    → IsOneCounter s count conditions counters → TakeAll CounterStandsFrom s sources counters gatherers
    → 0 < length gatherers
gathered-some s sources count conditions counters gatherers one taken =
    let long = AllZip-length
    (λ (counter : CounterView) (gatherer : Gatherer CounterView).
    TakesFeeds (CounterStandsFrom counter) taken.feeds gatherer) counters gatherers taken.each in
    omega (arith, long, ap length one.one)

-- the counter of all feeds, after they were taken
taken-one : (s : Layout) (sources : SourceBytes) (counter : CounterView) (gatherers : List (Gatherer CounterView))
    (gatherer : Gatherer CounterView) → (taken : TakeAll CounterStandsFrom s sources (counter ∷ []) gatherers)
    → gatherer ≡ get_or gatherers 0 gatherer → TakesFeeds (CounterStandsFrom counter) taken.feeds gatherer
taken-one s sources counter [] gatherer taken is = absurd taken.each
taken-one s sources counter (g ∷ gs) gatherer taken is =
    subst (TakesFeeds (CounterStandsFrom counter) taken.feeds) (sym is) taken.each.0

-- it has counted them
pub counts-feeds : (s : Layout) (conditions : List Condition) (sources : SourceBytes) (counters : List CounterView)
    (gatherers : List (Gatherer CounterView)) (gatherer : Gatherer CounterView) → AreGood s sources
    → IsOneCounter s (length sources) conditions counters
    → TakeAll CounterStandsFrom s sources counters gatherers → gatherer ≡ get_or gatherers 0 gatherer
    → CountsFeeds s conditions sources gatherer
counts-feeds s conditions sources counters gatherers gatherer good one all first =
    let taken : TakeAll CounterStandsFrom s sources (one.counter ∷ []) gatherers = rw one.one at all in
    record {
      good = good;
      counter = one.counter;
      new = one.new;
      feeds = taken.feeds;
      items = taken.items;
      takes = taken-one s sources one.counter gatherers gatherer taken first;
    }
