-- How an account that stands at items comes to stand at one item more,
-- and a ledger at an arrival list with one item more.
use Rattle.std.proofs.Common.{◌≡◌, ◌≢◌, ◌<◌, ◌≤◌, ◌+◌, ◌-◌, ◌==◌, ℕ, zero, suc, true, false, not, List, [], ◌∷◌, ◌++◌}
use Rattle.std.proofs.Common.{length, get_or, map, filter, replicate, refl, sym, ap, ◌∙◌, subst, arith, inl, inr}
use Rattle.std.proofs.Common.{add-zero}
use Rattle.std.specs.Prelude.{Option, Some, None, is_some, Result, Ok, Err, slice_set, option_map, if◌then◌else◌}
use Rattle.std.specs.Option.{option_to_list}
use Rattle.std.specs.Str.{bytes_eq}
use Rattle.std.specs.List.{IsDistinct, AllZip, cons_option, range_with_len}
use Rattle.std.proofs.lemmas.Bool.{cases_Bool, eq-eqb, eqb-true, false_from_ne_true}
use Rattle.std.proofs.lemmas.List.{append-nil, map-append}
use Rattle.std.proofs.lemmas.List.Elements.{filter-append, filter_map-append}
use Rattle.std.proofs.lemmas.Slice.Eq.{bytes_eq-Decides}
use Rattle.cube_core.specs.Arrival.{Arrivals, of_source}
use Rattle.cube_core.specs.Layout.{Layout}
use Rattle.cube_core.specs.Life.{id_of, life_of, taken_change, changes_of}
use Rattle.cube_core.specs.Refusals.{code_of, code_by_presence, shape_code, refusals_of}
use Rattle.cube_core.specs.Takes.{takes}
use Rattle.cube_core.proofs.LifeLaws.{life_after, life_of-naming, life_of-other}
use Rattle.cube_core.proofs.RefusalLaws.{refusals_of-more}
use Rattle.cube_core.specs.declared.fact.Fact.{Fact}
use Rattle.cube_core.specs.declared.change.Change.{Change}
use Rattle.cube_core.specs.declared.change.Change.TheVariants.{Insert, Update, Amend, Upsert, Delete, Remove}
use Rattle.cube_core.specs.declared.change.LineFault.{LineFault}
use Rattle.cube_core.specs.declared.change.Item.{Item}
use Rattle.cube_ledger.specs.Book.{Entries, fact_at, fact_put}
use Rattle.cube_ledger.specs.Ledger.{AccountView, LedgerView, AtSource, Exchanges, Enters, AccountStandsAt}
use Rattle.cube_ledger.specs.Ledger.{LedgerStandsAt, code_in, refusal, new_account, account_of}

-- ---- one change more

-- a change that is refused by presence changes no life
life_after-refused : (s : Layout) (change : Change) (life : Option Fact) (code : ℕ)
    → code_by_presence s change (is_some life) ≡ Some code
    → life_after change life ≡ life
life_after-refused s (Insert id fact) None code is = cc
life_after-refused s (Insert id fact) (Some present) code is = refl
life_after-refused s (Update id fact) None code is = refl
life_after-refused s (Update id fact) (Some present) code is = cc
life_after-refused s (Amend id part) None code is = refl
life_after-refused s (Amend id part) (Some present) code is = cc
life_after-refused s (Upsert id fact) life code is = cc
life_after-refused s (Delete id) None code is = refl
life_after-refused s (Delete id) (Some present) code is = cc
life_after-refused s (Remove id) life code is = cc

-- a change that isn't puts its fact or none
life_after-put : (s : Layout) (change : Change) (life : Option Fact) → code_by_presence s change (is_some life) ≡ None
    → life_after change life ≡ fact_put change life
life_after-put s (Insert id fact) None is = refl
life_after-put s (Insert id fact) (Some present) is = cc
life_after-put s (Update id fact) None is = cc
life_after-put s (Update id fact) (Some present) is = refl
life_after-put s (Amend id part) None is = cc
life_after-put s (Amend id part) (Some present) is = refl
life_after-put s (Upsert id fact) None is = refl
life_after-put s (Upsert id fact) (Some present) is = refl
life_after-put s (Delete id) None is = cc
life_after-put s (Delete id) (Some present) is = refl
life_after-put s (Remove id) None is = refl
life_after-put s (Remove id) (Some present) is = refl

-- the lives after a change that is refused by presence
life_of-refused : (s : Layout) (changes : List Change) (change : Change) (code : ℕ)
    → code_by_presence s change (is_some (life_of (id_of change) changes)) ≡ Some code
    → (id : List ℕ) → life_of id (changes ++ change ∷ []) ≡ life_of id changes
life_of-refused s changes change code is id = elim (cases_Bool (bytes_eq id (id_of change))) [
  | inl same ↦
      let equal : id_of change ≡ id = sym ((bytes_eq-Decides id (id_of change)).0 same) in
      life_of-naming id changes change same
      ∙ life_after-refused s change (life_of id changes) code
      (ap (λ i. code_by_presence s change (is_some (life_of i changes))) (sym equal) ∙ is)
  | inr other ↦ life_of-other id changes change other
]

-- the lives after a change that isn't
life_of-put : (s : Layout) (changes : List Change) (change : Change)
    → code_by_presence s change (is_some (life_of (id_of change) changes)) ≡ None
    → (id : List ℕ)
    → life_of id (changes ++ change ∷ [])
    ≡ (if bytes_eq (id_of change) id then fact_put change (life_of (id_of change) changes) else life_of id changes)
life_of-put s changes change is id = elim (cases_Bool (bytes_eq (id_of change) id)) [
  | inl same ↦
      let equal : id_of change ≡ id = (bytes_eq-Decides (id_of change) id).0 same in
      let back : bytes_eq id (id_of change) ≡ true = (bytes_eq-Decides id (id_of change)).1 (sym equal) in
      let here : life_of id changes ≡ life_of (id_of change) changes = ap (λ i. life_of i changes) (sym equal) in
      rw same
      (life_of-naming id changes change back
      ∙ ap (life_after change) here
      ∙ life_after-put s change (life_of (id_of change) changes) is)
  | inr apart ↦
      let back : bytes_eq id (id_of change) ≡ false =
      false_from_ne_true (bytes_eq id (id_of change)) (λ same.
      cc (sym apart ∙ (bytes_eq-Decides (id_of change) id).1 (sym ((bytes_eq-Decides id (id_of change)).0 same)))) in
      rw apart (life_of-other id changes change back)
]

-- ---- one item more

-- the changes after one item more
changes_of-more : (s : Layout) (items : List Item) (item : Item)
    → changes_of s (items ++ item ∷ []) ≡ changes_of s items ++ cons_option (taken_change s item.what) []
changes_of-more s items item = filter_map-append (λ (x : Item). taken_change s x.what) items (item ∷ [])

-- what a book with the facts of items refuses is what is refused after the items
code_in-code_of : (s : Layout) (items : List Item) (book : Entries) (what : Result Change LineFault)
    → ((id : List ℕ) → fact_at book id ≡ life_of id (changes_of s items)) → code_in s book what ≡ code_of s items what
code_in-code_of s items book (Err fault) facts = refl
code_in-code_of s items book (Ok change) facts =
    ap (λ (life : Option Fact). if not (takes s change) then Some (shape_code s)
    else code_by_presence s change (is_some life)) (facts (id_of change))

-- an item that is refused changes no life
life_of-item_refused : (s : Layout) (items : List Item) (what : Result Change LineFault) (code : ℕ)
    → code_of s items what ≡ Some code
    → (id : List ℕ)
    → life_of id (changes_of s items ++ cons_option (taken_change s what) []) ≡ life_of id (changes_of s items)
life_of-item_refused s items (Err fault) code is id = ap (life_of id) (append-nil (changes_of s items))
life_of-item_refused s items (Ok change) code is id = elim (cases_Bool (takes s change)) [
  | inl taken ↦ rw taken (life_of-refused s (changes_of s items) change code (rw taken at is) id)
  | inr untaken ↦ rw untaken (ap (life_of id) (append-nil (changes_of s items)))
]

-- an item that isn't is a change
says-change : (s : Layout) (book : Entries) (what : Result Change LineFault) → code_in s book what ≡ None
    → (change : Change) × (what ≡ Ok change)
says-change s book (Ok change) is = (change, refl)
says-change s book (Err fault) is = cc

-- its change is one of those taken, and refused by no presence
life_of-item_put : (s : Layout) (items : List Item) (change : Change) → code_of s items (Ok change) ≡ None
    → (id : List ℕ) → life_of id (changes_of s items ++ cons_option (taken_change s (Ok change)) [])
    ≡ (if bytes_eq (id_of change) id then fact_put change (life_of (id_of change) (changes_of s items))
    else life_of id (changes_of s items))
life_of-item_put s items change is id = elim (cases_Bool (takes s change)) [
  | inl taken ↦ rw taken (life_of-put s (changes_of s items) change (rw taken at is) id)
  | inr untaken ↦ cc (rw untaken at is)
]

-- the refusals after one item more
refusals_of-coded : (s : Layout) (items : List Item) (item : Item) (code : Option ℕ) → code_of s items item.what ≡ code
    → refusals_of s (items ++ item ∷ []) ≡ refusals_of s items ++ option_to_list (option_map (refusal item.number) code)
refusals_of-coded s items item code is =
    refusals_of-more s items item
    ∙ ap (λ (c : Option ℕ). refusals_of s items ++ option_to_list (option_map (refusal item.number) c)) is

-- an account that stands at items stands at one item more after it took the item
pub AccountStandsAt-Enters : (s : Layout) (items : List Item) (item : Item) (old new : AccountView)
    → AccountStandsAt s items old → Enters s item old new → AccountStandsAt s (items ++ item ∷ []) new
AccountStandsAt-Enters s items item old new stands enters = go (code_in s old.book item.what) refl
  where
    coded : (code : Option ℕ) → code_in s old.book item.what ≡ code → code_of s items item.what ≡ code
    coded code is = sym (code_in-code_of s items old.book item.what stands.facts) ∙ is

    lives : (id : List ℕ) → life_of id (changes_of s (items ++ item ∷ []))
        ≡ life_of id (changes_of s items ++ cons_option (taken_change s item.what) [])
    lives id = ap (life_of id) (changes_of-more s items item)

    go : (code : Option ℕ) → code_in s old.book item.what ≡ code → AccountStandsAt s (items ++ item ∷ []) new
    go (Some code) is =
        subst (AccountStandsAt s (items ++ item ∷ [])) (sym (enters.refused code is)) (record {
          facts = λ id.
              stands.facts id ∙ sym (lives id ∙ life_of-item_refused s items item.what code (coded (Some code) is) id);
          each_once = stands.each_once;
          refused = ap (λ rs. rs ++ refusal item.number code ∷ []) stands.refused
              ∙ sym (refusals_of-coded s items item (Some code) (coded (Some code) is));
        })
    go None is =
        let said = says-change s old.book item.what is in
        let change : Change = said.0 in
        let exchanged : Exchanges (id_of change) (fact_at old.book (id_of change))
        (fact_put change (fact_at old.book (id_of change))) old new = enters.taken change said.1 is in
        let lawful : code_of s items (Ok change) ≡ None = ap (code_of s items) (sym said.1) ∙ coded None is in
        record {
          facts = λ id.
              exchanged.book.facts id
              ∙ (λ i. if bytes_eq (id_of change) id then fact_put change (stands.facts (id_of change) i)
              else stands.facts id i)
              ∙ sym (life_of-item_put s items change lawful id)
              ∙ ap
              (λ (w : Result Change LineFault). life_of id (changes_of s items ++ cons_option (taken_change s w) []))
              (sym said.1)
              ∙ sym (lives id);
          each_once = exchanged.book.each_once;
          refused = exchanged.refusals ∙ stands.refused
              ∙ sym (refusals_of-coded s items item None (coded None is) ∙ append-nil (refusals_of s items));
        }

-- ---- one arrival more

-- the items of a source after one arrival more: of that source
of_source-same : (arrivals : Arrivals) (source : ℕ) (item : Item)
    → of_source (arrivals ++ (source, item) ∷ []) source ≡ of_source arrivals source ++ item ∷ []
of_source-same arrivals source item =
    ap (map (λ (arrival : ℕ × Item). arrival.1))
    (filter-append (λ (arrival : ℕ × Item). arrival.0 == source) arrivals ((source, item) ∷ [])
    ∙ rw (eq-eqb source source refl) refl)
    ∙ map-append (λ (arrival : ℕ × Item). arrival.1) (filter (λ (arrival : ℕ × Item). arrival.0 == source) arrivals)
    ((source, item) ∷ [])

-- of another
pub of_source-other : (arrivals : Arrivals) (source other : ℕ) (item : Item) → source ≢ other
    → of_source (arrivals ++ (source, item) ∷ []) other ≡ of_source arrivals other
of_source-other arrivals source other item apart =
    let differs : (source == other) ≡ false =
    false_from_ne_true (source == other) (λ same. apart (eqb-true source other same)) in
    ap (map (λ (arrival : ℕ × Item). arrival.1))
    (filter-append (λ (arrival : ℕ × Item). arrival.0 == other) arrivals ((source, item) ∷ [])
    ∙ rw differs (append-nil (filter (λ (arrival : ℕ × Item). arrival.0 == other) arrivals)))

-- the accounts of the sources from one on stand at what an arrival list has of each
abbrev StandFrom : Layout → Arrivals → ℕ → List AccountView → Type 0
StandFrom s arrivals first accounts =
    AllZip (AccountStandsAt s) (map (of_source arrivals) (range_with_len first (length accounts))) accounts

-- those of later sources stay
StandFrom-later : (s : Layout) (arrivals : Arrivals) (source : ℕ) (item : Item) (first : ℕ)
    (accounts : List AccountView) → source < first
    → StandFrom s arrivals first accounts → StandFrom s (arrivals ++ (source, item) ∷ []) first accounts
StandFrom-later s arrivals source item first [] below stand = tt
StandFrom-later s arrivals source item first (a ∷ accounts) below stand =
    let apart : source ≢ first = λ same. absurd (omega (arith, same)) in (
      subst (λ (items : List Item). AccountStandsAt s items a)
          (sym (of_source-other arrivals source first item apart)) stand.0,
      StandFrom-later s arrivals source item (first + 1) accounts (omega arith) stand.1,
    )

-- that of the source changes
StandFrom-set : (s : Layout) (arrivals : Arrivals) (source : ℕ) (item : Item) (first : ℕ) (accounts : List AccountView)
    (place : ℕ) (account : AccountView)
    → source ≡ first + place → place < length accounts
    → (AccountStandsAt s (of_source arrivals source) (get_or accounts place new_account)
    → AccountStandsAt s (of_source arrivals source ++ item ∷ []) account)
    → StandFrom s arrivals first accounts
    → StandFrom s (arrivals ++ (source, item) ∷ []) first (slice_set accounts place account)
StandFrom-set s arrivals source item first [] place account is below step stand = absurd (omega arith)
StandFrom-set s arrivals source item first (a ∷ accounts) zero account is below step stand =
    let here : source ≡ first = is ∙ add-zero first in (
      subst (λ n. AccountStandsAt s (of_source (arrivals ++ (source, item) ∷ []) n) account) here
          (subst (λ (items : List Item). AccountStandsAt s items account) (sym (of_source-same arrivals source item))
          (step (subst (λ n. AccountStandsAt s (of_source arrivals n) a) (sym here) stand.0))),
      StandFrom-later s arrivals source item (first + 1) accounts (omega (arith, here)) stand.1,
    )
StandFrom-set s arrivals source item first (a ∷ accounts) (suc place) account is below step stand =
    let apart : source ≢ first = λ same. absurd (omega (arith, same, is)) in (
      subst (λ (items : List Item). AccountStandsAt s items a)
          (sym (of_source-other arrivals source first item apart)) stand.0,
      StandFrom-set s arrivals source item (first + 1) accounts place account (omega (arith, is))
          (omega arith) step stand.1,
    )

-- a ledger that stands at an arrival list stands at one arrival more after its source's account took the item
pub LedgerStandsAt-Enters : (old new : LedgerView) (source : ℕ) (item : Item) → 1 ≤ source
    → source ≤ length old.accounts
    → AtSource (Enters old.schema item) source old new
    → (arrivals : Arrivals) → LedgerStandsAt old arrivals → LedgerStandsAt new (arrivals ++ (source, item) ∷ [])
LedgerStandsAt-Enters old new source item some within at arrivals stands =
    let set :
    StandFrom old.schema (arrivals ++ (source, item) ∷ []) 1 (slice_set old.accounts (source - 1) at.account) =
    StandFrom-set old.schema arrivals source item 1 old.accounts (source - 1) at.account (omega arith) (omega arith)
    (λ stand. AccountStandsAt-Enters old.schema (of_source arrivals source) item
    (account_of old source) at.account stand at.changed) stands in
    subst (λ (s : Layout). StandFrom s (arrivals ++ (source, item) ∷ []) 1 new.accounts) (sym at.schema)
    (subst (StandFrom old.schema (arrivals ++ (source, item) ∷ []) 1) (sym at.accounts) set)

-- a new account stands at no item
AccountStandsAt-new : (s : Layout) → AccountStandsAt s [] new_account
unfolding IsDistinct
AccountStandsAt-new s = record { facts = λ id. refl; each_once = tt; refused = refl }

-- new accounts stand at no arrival
StandFrom-new : (s : Layout) (first sources : ℕ) → StandFrom s [] first (replicate sources new_account)
StandFrom-new s first zero = tt
StandFrom-new s first (suc sources) = (AccountStandsAt-new s, StandFrom-new s (first + 1) sources)

-- a new ledger stands at the empty arrival list
pub LedgerStandsAt-new : (ledger : LedgerView) (sources : ℕ) → ledger.accounts ≡ replicate sources new_account
    → LedgerStandsAt ledger []
LedgerStandsAt-new ledger sources are =
    subst (StandFrom ledger.schema [] 1) (sym are) (StandFrom-new ledger.schema 1 sources)
