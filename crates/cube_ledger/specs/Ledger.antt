-- The books and the refusals of all sources, and what an item does to them (this project's choice).
use Rattle.std.specs.Prelude.{◌≡◌, ◌≤◌, ⊤, true, All, ◌++◌, ◌∷◌, ◌-◌, ℕ, Bool, false, List, [], length, get_or, map}
use Rattle.std.specs.Prelude.{flat_map, slice_set, Option, Some, None, is_some, Result, Ok, Err, not, if◌then◌else◌}
use Rattle.std.specs.List.{AllZip}
use Rattle.cube_core.specs.Arrival.{Arrivals, of_sources}
use Rattle.cube_core.specs.Layout.{Layout}
use Rattle.cube_core.specs.Life.{id_of, life_of, changes_of}
use Rattle.cube_core.specs.Refusals.{code_of_fault, shape_code, code_by_presence, refusals_of}
use Rattle.cube_core.specs.Takes.{takes, fits}
use Rattle.cube_core.specs.declared.fact.Fact.{Fact}
use Rattle.cube_core.specs.declared.change.Change.{Change}
use Rattle.cube_core.specs.declared.change.Change.TheVariants.{Insert, Update, Amend, Upsert, Delete, Remove}
use Rattle.cube_core.specs.declared.change.LineFault.{LineFault}
use Rattle.cube_core.specs.declared.change.Item.{Item}
use Rattle.cube_core.specs.declared.change.Refusal.{Refusal}
use Rattle.cube_ledger.specs.declared.ruling.Ruling.{Ruling}
use Rattle.cube_ledger.specs.declared.ruling.Ruling.TheVariants.{Refuse, Put, Take}
use Rattle.cube_ledger.specs.Book.{Entries, IsBook, Replaces, fact_at, fact_put, facts_of}

-- what a ledger keeps of one source: its book, and its refusals in the order of its items
pub record AccountView : Type 0 where
  pub book : Entries
  pub refusals : List Refusal

-- what a ledger keeps: its schema, and the account of each source, from the first
pub record LedgerView : Type 0 where
  pub schema : Layout
  pub accounts : List AccountView

-- the account of a source of which no item came
abbrev pub new_account : AccountView
new_account = record { book = []; refusals = [] }

-- an account without its facts; its refusals stay
abbrev pub without_facts : AccountView → AccountView
without_facts account = record { book = []; refusals = account.refusals }

-- a ledger whose books have no fact; schema, sources and refusals stay
abbrev pub ledger_without_facts : LedgerView → LedgerView
ledger_without_facts ledger = record { schema = ledger.schema; accounts = map without_facts ledger.accounts }

-- the account of a source, counted from 1
abbrev pub account_of : LedgerView → ℕ → AccountView
account_of ledger source = get_or ledger.accounts (source - 1) new_account

-- whether a change is an amendment
abbrev pub is_amendment : Change → Bool
is_amendment (Insert id fact) = false
is_amendment (Update id fact) = false
is_amendment (Amend id part) = true
is_amendment (Upsert id fact) = false
is_amendment (Delete id) = false
is_amendment (Remove id) = false

-- whether an item says an amendment
abbrev pub says_amendment : Result Change LineFault → Bool
says_amendment (Err fault) = false
says_amendment (Ok change) = is_amendment change

-- the facts of all sources, source after source
abbrev pub all_facts : List AccountView → List Fact
all_facts accounts = flat_map (λ account. facts_of account.book) accounts

-- the code of what an item says, if a source with this book refuses it
abbrev pub code_in : Layout → Entries → Result Change LineFault → Option ℕ
code_in s book (Err fault) = Some (code_of_fault s fault)
code_in s book (Ok change) =
    if not (takes s change) then Some (shape_code s)
    else code_by_presence s change (is_some (fact_at book (id_of change)))

-- what an item says is a change that a source with this book takes, and this fact or none comes under this id by it
pub record Puts (s : Layout) (book : Entries) (what : Result Change LineFault) (id : List ℕ) (come : Option Fact)
    : Type 0 where
  pub change : Change
  pub says : what ≡ Ok change
  pub lawful : code_in s book what ≡ None
  pub of_id : id_of change ≡ id
  pub comes : fact_put change (fact_at book id) ≡ come

-- an item says a delete that a source with this book doesn't refuse
pub record IsRemoval (s : Layout) (book : Entries) (what : Result Change LineFault) : Type 0 where
  pub id : List ℕ
  pub says : what ≡ Ok (Delete id)
  pub lawful : code_in s book what ≡ None

-- what a change comes to that isn't refused: this fact or none comes under this id
abbrev pub ComesTo : Entries → Change → Ruling → Type 0
ComesTo book change (Refuse code) = ⊥
ComesTo book change (Put id fact) = (id_of change ≡ id) × (fact_put change (fact_at book id) ≡ Some fact)
ComesTo book change (Take id) = (id_of change ≡ id) × (fact_put change (fact_at book id) ≡ None)

-- whether the schema takes the change that an item says; a line fault says none
abbrev pub says_taken : Layout → Result Change LineFault → Bool
says_taken s (Ok change) = takes s change
says_taken s (Err fault) = true

-- what an item comes to where a source has this book: a refusal, a fact under an id, or none under it
abbrev pub IsRuling : Layout → Entries → Result Change LineFault → Ruling → Type 0
IsRuling s book what (Refuse code) = code_in s book what ≡ Some code
IsRuling s book what (Put id fact) = Puts s book what id (Some fact)
IsRuling s book what (Take id) = Puts s book what id None

-- the fact that comes, where one does, fits the schema
abbrev pub RulingFits : Layout → Ruling → Type 0
RulingFits s (Refuse code) = ⊤
RulingFits s (Put id fact) = fits s fact ≡ true
RulingFits s (Take id) = ⊤

-- all facts fit the schema
abbrev pub AllFit : Layout → List Fact → Type 0
AllFit s facts = All (λ fact. fits s fact ≡ true) facts

-- what is true of every ledger: it has at most 64 sources, and all its facts fit
pub record IsLedger (s : Layout) (accounts : List AccountView) : Type 0 where
  pub sources_at_most : length accounts ≤ 64
  pub all_fit : AllFit s (all_facts accounts)

-- a refusal of a number and a code
abbrev pub refusal : ℕ → ℕ → Refusal
refusal number code = record { number = number; code = code }

-- an account with one refusal more
abbrev pub with_refusal : AccountView → ℕ → ℕ → AccountView
with_refusal account number code = record account { refusals = account.refusals ++ refusal number code ∷ [] }

-- the book of an account has this fact or none under an id, in place of what is gone, and its refusals stay
pub record Exchanges (id : List ℕ) (gone come : Option Fact) (old new : AccountView) : Type 0 where
  pub book : Replaces old.book id gone come new.book
  pub refusals : new.refusals ≡ old.refusals

-- what an item of a number came to was done to an account:
-- it was noted as refused, a fact was put under an id, or the fact there was taken out
abbrev pub Obeys : ℕ → Ruling → AccountView → AccountView → Type 0
Obeys number (Refuse code) old new = new ≡ with_refusal old number code
Obeys number (Put id fact) old new = Exchanges id (fact_at old.book id) (Some fact) old new
Obeys number (Take id) old new = Exchanges id (fact_at old.book id) None old new

-- an account took an item: one that is refused is noted with its code and changes no fact,
-- and the change of any other is made
pub record Enters (s : Layout) (item : Item) (old new : AccountView) : Type 0 where
  pub refused : (code : ℕ) → code_in s old.book item.what ≡ Some code → new ≡ with_refusal old item.number code
  pub taken : (change : Change) → item.what ≡ Ok change → code_in s old.book item.what ≡ None
      → Exchanges (id_of change) (fact_at old.book (id_of change))
      (fact_put change (fact_at old.book (id_of change))) old new

-- the account of one source changed so, and nothing else did
pub record AtSource (changes : AccountView → AccountView → Type 0) (source : ℕ) (old new : LedgerView) : Type 0 where
  pub account : AccountView
  pub changed : changes (account_of old source) account
  pub accounts : new.accounts ≡ slice_set old.accounts (source - 1) account
  pub schema : new.schema ≡ old.schema

-- an account stands at the items of its source: its book has a fact under an id exactly where the id is present
-- after them, and that very fact, and its refusals are theirs
pub record AccountStandsAt (s : Layout) (items : List Item) (account : AccountView) : Type 0 where
  pub facts : (id : List ℕ) → fact_at account.book id ≡ life_of id (changes_of s items)
  pub each_once : IsBook account.book
  pub refused : account.refusals ≡ refusals_of s items

-- a ledger stands at an arrival list: the account of each source stands at what the list has of the source
abbrev pub LedgerStandsAt : LedgerView → Arrivals → Type 0
LedgerStandsAt ledger arrivals =
    AllZip (AccountStandsAt ledger.schema) (of_sources (length ledger.accounts) arrivals) ledger.accounts
