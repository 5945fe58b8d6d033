-- Counters: what takes feeds without books, and what a run counts of its feeds (this project's choice).
use Rattle.std.specs.Prelude.{◌≡◌, ◌≤◌, ◌<◌, ◌+◌, ◌-◌, ◌*◌, ◌%◌, ◌^◌, ℕ, Bool, true, false, List, [], ◌∷◌, length, map}
use Rattle.std.specs.Prelude.{get_or, replicate, slice_set, All}
use Rattle.std.specs.List.{fold}
use Rattle.cube_core.specs.Arrival.{Arrivals}
use Rattle.cube_core.specs.Conditions.{of_interest}
use Rattle.cube_core.specs.Layout.{IsSchema, Layout, cube_schema}
use Rattle.cube_core.specs.Refusals.{code_of_fault}
use Rattle.cube_core.specs.Takes.{fits}
use Rattle.cube_core.specs.declared.change.Item.{Item}
use Rattle.cube_core.specs.declared.change.LineFault.{LineFault}
use Rattle.cube_core.specs.declared.change.Refusal.{Refusal}
use Rattle.cube_core.specs.declared.condition.Condition.{Condition}
use Rattle.cube_core.specs.declared.fact.Fact.{Fact}
use Rattle.cube_cells.specs.Cube.{Lattice}
use Rattle.cube_cells.specs.Fill.{finest_set}
use Rattle.cube_ledger.specs.Book.{IsBook}
use Rattle.cube_ledger.specs.Interest.{ledger_of_interest}
use Rattle.cube_ledger.specs.Ledger.{AccountView, AllFit, AtSource, Enters, LedgerStandsAt, LedgerView, account_of}
use Rattle.cube_ledger.specs.Ledger.{all_facts, new_account, with_refusal}
use Rattle.cube_build.specs.Builder.{BuilderView, CountsFacts, GainsFacts, HasFacts}
use Rattle.cube_build.specs.Parted.{IsPartOver}

-- how much an id weighs: numbers in decimal weigh the more the greater they are
abbrev pub weight_with : ℕ → ℕ → ℕ
weight_with weight byte = (weight * 10 % 2 ^ 64 + byte) % 2 ^ 64

abbrev pub weight_of : List ℕ → ℕ
weight_of id = fold weight_with 0 id

-- an account with a fact more, under an id
abbrev pub with_entry : AccountView → List ℕ → Fact → AccountView
with_entry account id fact = record { book = (id, fact) ∷ account.book; refusals = account.refusals }

-- a ledger in which a source has this account
abbrev pub with_account : LedgerView → ℕ → AccountView → LedgerView
with_account ledger source account =
    record { schema = ledger.schema; accounts = slice_set ledger.accounts (source - 1) account }

-- a ledger in which an item of a source is refused
abbrev pub refusing : LedgerView → ℕ → ℕ → ℕ → LedgerView
refusing ledger source number code =
    with_account ledger source (with_refusal (account_of ledger source) number code)

-- a ledger in which a source has a fact more, under an id
abbrev pub putting : LedgerView → ℕ → List ℕ → Fact → LedgerView
putting ledger source id fact = with_account ledger source (with_entry (account_of ledger source) id fact)

-- the refusals of each source
abbrev pub refusals_in : LedgerView → List (List Refusal)
refusals_in ledger = map (λ account. account.refusals) ledger.accounts

-- what a contract sees of a counter: whether memory ran out for it, the conditions of the facts that it counts, and the
-- ledger of all that it took, of which it keeps the refusals alone
pub record CounterView : Type 0 where
  pub is_spent : Bool
  pub conditions : List Condition
  pub ledger : LedgerView

-- no id stands twice in the book of an account, and none weighs more than this
pub record IsWeighed (weight : ℕ) (account : AccountView) : Type 0 where
  pub each_once : IsBook account.book
  pub within : All (λ entry. weight_of entry.0 ≤ weight) account.book

-- the greatest weight is kept of each source
abbrev pub AreWeighed : List ℕ → List AccountView → Type 0
AreWeighed weights accounts = (place : ℕ) → place < length accounts
    → IsWeighed (get_or weights place 0) (get_or accounts place new_account)

-- a cube is over the finest grouping set alone
abbrev pub IsOverFinest : Lattice → Type 0
IsOverFinest cube = cube.sets ≡ finest_set (length cube.schema.dimensions) ∷ []

-- a cube over the finest set counts the facts of interest of a ledger, which fit, and no id weighs too much
pub record IsCounted (conditions : List Condition) (ledger : LedgerView) (weights : List ℕ) (cube : Lattice)
    : Type 0 where
  pub fit : AllFit ledger.schema (of_interest conditions (all_facts ledger.accounts))
  pub counts : CountsFacts (of_interest conditions (all_facts ledger.accounts)) cube
  pub sets : IsOverFinest cube
  pub weighed : AreWeighed weights ledger.accounts

-- what is kept has the schema and the refusals of a ledger
pub record AreRefusedOf (refused ledger : LedgerView) : Type 0 where
  pub schema : refused.schema ≡ ledger.schema
  pub refusals : refusals_in refused ≡ refusals_in ledger

-- a schema counts no text
pub record CountsNoText (s : Layout) : Type 0 where
  pub schema : IsSchema s
  pub none : s.text_places ≡ []

-- what is true of every counter: its schema counts no text, its refusals are those of its ledger, and so are its facts of
-- interest, unless memory ran out
pub record IsCounter (is_spent : Bool) (conditions : List Condition) (refused ledger : LedgerView) (weights : List ℕ)
    (cube : Lattice) : Type 0 where
  pub noted : AreRefusedOf refused ledger
  pub plain : CountsNoText ledger.schema
  pub schema : cube.schema ≡ ledger.schema
  pub long : length weights ≡ length ledger.accounts
  pub counted : is_spent ≡ false → IsCounted conditions ledger weights cube

-- a counter took an item of a source: memory hadn't run out before, and its ledger took the item
pub record CountsItem (source : ℕ) (item : Item) (old new : CounterView) : Type 0 where
  pub before : old.is_spent ≡ false
  pub conditions : new.conditions ≡ old.conditions
  pub enters : AtSource (Enters old.ledger.schema item) source old.ledger new.ledger

-- the ledger of a counter stands at an arrival list, with the schema, the conditions and as many accounts as at first,
-- unless memory ran out
pub record CountsAt (first counter : CounterView) (arrivals : Arrivals) : Type 0 where
  pub schema : counter.ledger.schema ≡ first.ledger.schema
  pub all : length counter.ledger.accounts ≡ length first.ledger.accounts
  pub conditions : counter.conditions ≡ first.conditions
  pub stands_at : LedgerStandsAt counter.ledger arrivals

abbrev pub CounterStandsFrom : CounterView → CounterView → Arrivals → Type 0
CounterStandsFrom first counter arrivals = counter.is_spent ≡ false → CountsAt first counter arrivals

-- a counter of so many sources that has taken nothing
pub record IsNewCounter (s : Layout) (sources : ℕ) (conditions : List Condition) (counter : CounterView)
    : Type 0 where
  pub conditions_are : counter.conditions ≡ conditions
  pub schema : counter.ledger.schema ≡ s
  pub accounts : counter.ledger.accounts ≡ replicate sources new_account

-- cells have the facts of a ledger, under the schema of its cube
pub record HaveFactsOf (ledger : LedgerView) (cells : Lattice) : Type 0 where
  pub schema : cells.schema ≡ cube_schema ledger.schema
  pub has : HasFacts ledger.schema (all_facts ledger.accounts) cells

-- what is true of all that a run counted: the cube has the facts of the ledger, and the refusals are its own
pub record AreCounts (refused ledger : LedgerView) (cube : Lattice) : Type 0 where
  pub noted : AreRefusedOf refused ledger
  pub cells : HaveFactsOf ledger cube

-- these are the counts of a ledger over the finest grouping set alone
pub record AreFinestCounts (ledger : LedgerView) (counts : BuilderView) : Type 0 where
  pub ledger_is : counts.ledger ≡ ledger
  pub finest : IsOverFinest counts.cube
  pub has : HaveFactsOf ledger counts.cube

-- these are the counts of a counter: of the facts of interest, over the finest grouping set alone
pub record AreCountsOf (counter : CounterView) (counts : BuilderView) : Type 0 where
  pub unspent : counter.is_spent ≡ false
  pub are : AreFinestCounts (ledger_of_interest counter.conditions counter.ledger) counts

-- counts are filled from those over the finest grouping set: of the same ledger, over all grouping sets of its schema
pub record AreFilledFrom (finest counts : BuilderView) : Type 0 where
  pub ledger : counts.ledger ≡ finest.ledger
  pub over : IsPartOver finest.ledger.schema 1 0 counts.cube
  pub has : HasFacts finest.ledger.schema (all_facts finest.ledger.accounts) counts.cube

-- one counter of so many sources that has taken nothing
pub record IsOneCounter (s : Layout) (sources : ℕ) (conditions : List Condition) (counters : List CounterView)
    : Type 0 where
  pub counter : CounterView
  pub one : counters ≡ counter ∷ []
  pub new : IsNewCounter s sources conditions counter

-- a line fault of a source was noted in a ledger, with its code
pub record NotesFault (s : Layout) (fault : LineFault) (source number : ℕ) (old new : LedgerView) (code : ℕ)
    : Type 0 where
  pub coded : code_of_fault s fault ≡ code
  pub noted : AtSource (λ before after. after ≡ with_refusal before number code) source old new

-- a fact that fits, of an id that weighs more than the last one, was added to a cube, where it is of interest
pub record Admits (conditions : List Condition) (last weight : ℕ) (fact : Fact) (old new : Lattice) : Type 0 where
  pub heavier : last < weight
  pub fit : fits old.schema fact ≡ true
  pub gains : GainsFacts (of_interest conditions (fact ∷ [])) old new
