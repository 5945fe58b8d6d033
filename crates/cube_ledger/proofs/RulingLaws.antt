-- What an item comes to, and what an account does when it takes the item.
use Rattle.std.proofs.Common.{◌≡◌, ◌-◌, ℕ, Bool, true, false, List, [], ◌∷◌, ◌++◌, length, refl, sym, ap, ◌∙◌, subst}
use Rattle.std.specs.Prelude.{Option, Some, None, Result, Ok, is_some, option_map}
use Rattle.std.proofs.Math.ListN.{length-set}
use Rattle.std.proofs.lemmas.Option.{same_Some}
use Rattle.cube_core.specs.Layout.{Layout}
use Rattle.cube_core.specs.Life.{id_of}
use Rattle.cube_core.specs.Refusals.{present_code, absent_code, code_by_presence}
use Rattle.cube_core.specs.Takes.{takes}
use Rattle.cube_core.specs.declared.fact.Fact.{Fact}
use Rattle.cube_core.specs.declared.change.Change.{Change}
use Rattle.cube_core.specs.declared.change.Change.TheVariants.{Insert, Update, Amend, Upsert, Delete, Remove}
use Rattle.cube_core.specs.declared.change.Item.{Item}
use Rattle.cube_core.specs.declared.change.LineFault.{LineFault}
use Rattle.cube_ledger.specs.Book.{Entries, Makes, fact_at, fact_put, refused_by, refused_by_presence}
use Rattle.cube_ledger.specs.Ledger.{AccountView, LedgerView, AtSource, Enters, Exchanges, IsRemoval, IsRuling, Obeys}
use Rattle.cube_ledger.specs.Ledger.{Puts, account_of, code_in, refusal, with_refusal}
use Rattle.cube_ledger.specs.declared.book.BookFault.{BookFault}
use Rattle.cube_ledger.specs.declared.book.BookFault.TheVariants.{Present, Absent, Memory}
use Rattle.cube_ledger.specs.declared.ruling.Ruling.{Ruling}
use Rattle.cube_ledger.specs.declared.ruling.Ruling.TheVariants.{Refuse, Put, Take}

-- a change that puts this fact or none under an id was made, where what is there gave way to it
Enters-Puts : (s : Layout) (item : Item) (old new : AccountView) (id : List ℕ) (come : Option Fact)
    → Puts s old.book item.what id come
    → Exchanges id (fact_at old.book id) come old new → Enters s item old new
Enters-Puts s item old new id come puts exchanged = record {
  refused = λ code is. cc (sym puts.lawful ∙ is);
  taken = λ change says lawful.
      let same : puts.change ≡ change = cc (sym puts.says ∙ says) in
      let at : id_of change ≡ id = ap id_of (sym same) ∙ puts.of_id in
      let comes : fact_put change (fact_at old.book (id_of change)) ≡ come =
      (λ i. fact_put (sym same i) (fact_at old.book (at i))) ∙ puts.comes in
      rw (comes, at) exchanged;
}

-- an account that did what an item came to took the item
pub Enters-Obeys : (s : Layout) (item : Item) (old new : AccountView) (ruling : Ruling)
    → IsRuling s old.book item.what ruling
    → Obeys item.number ruling old new → Enters s item old new
Enters-Obeys s item old new (Refuse code) is obeys = record {
  refused = λ other refused. obeys ∙ ap (with_refusal old item.number) (same_Some code other (sym is ∙ refused));
  taken = λ change says lawful. cc (sym is ∙ lawful);
}
Enters-Obeys s item old new (Put id fact) is obeys = Enters-Puts s item old new id (Some fact) is obeys
Enters-Obeys s item old new (Take id) is obeys = Enters-Puts s item old new id None is obeys

-- what is put or taken out gives way, whatever it is named
pub Exchanges-was : (id : List ℕ) (out come : Option Fact) (old new : AccountView) → Exchanges id out come old new
    → Exchanges id (fact_at old.book id) come old new
Exchanges-was id out come old new exchanged = subst (λ o. Exchanges id o come old new) exchanged.book.was exchanged

-- ---- a change that a book made or refused

-- the code of a change that a book refused for this fault
abbrev pub code_of_refusal : Layout → BookFault → ℕ
code_of_refusal s Present = present_code s
code_of_refusal s Absent = absent_code s
code_of_refusal s Memory = 0

code_by_presence-refused_by : (s : Layout) (change : Change) (present : Bool)
    → code_by_presence s change present ≡ option_map (code_of_refusal s) (refused_by_presence change present)
code_by_presence-refused_by s (Insert id fact) true = refl
code_by_presence-refused_by s (Insert id fact) false = refl
code_by_presence-refused_by s (Update id fact) true = refl
code_by_presence-refused_by s (Update id fact) false = refl
code_by_presence-refused_by s (Amend id part) true = refl
code_by_presence-refused_by s (Amend id part) false = refl
code_by_presence-refused_by s (Upsert id fact) true = refl
code_by_presence-refused_by s (Upsert id fact) false = refl
code_by_presence-refused_by s (Delete id) true = refl
code_by_presence-refused_by s (Delete id) false = refl
code_by_presence-refused_by s (Remove id) true = refl
code_by_presence-refused_by s (Remove id) false = refl

-- a change that the schema takes is refused where the book refuses it, with the code of the book's fault
pub code_in-refused_by : (s : Layout) (book : Entries) (what : Result Change LineFault) (change : Change)
    (fault : Option BookFault) → what ≡ Ok change
    → takes s change ≡ true → refused_by book change ≡ fault
    → code_in s book what ≡ option_map (code_of_refusal s) fault
code_in-refused_by s book what change fault says taken is =
    rw (says, taken)
    (code_by_presence-refused_by s change (is_some (fact_at book (id_of change)))
    ∙ ap (option_map (code_of_refusal s)) is)

-- an account whose book made the change of an item took the item
pub Enters-Makes : (s : Layout) (item : Item) (old new : AccountView) (change : Change) (gone : Option Fact)
    → item.what ≡ Ok change → takes s change ≡ true
    → Makes old.book change gone new.book → new.refusals ≡ old.refusals → Enters s item old new
Enters-Makes s item old new change gone says taken makes refusals =
    Enters-Puts s item old new (id_of change) (fact_put change (fact_at old.book (id_of change)))
    (record {
      change = change;
      says = says;
      lawful = code_in-refused_by s old.book item.what change None says taken makes.lawful;
      of_id = refl;
      comes = refl;
    })
    (Exchanges-was (id_of change) gone _ old new (record { book = makes.replaces; refusals = refusals }))

-- one that noted the code of the fault for which its book refused the change did
pub Enters-refused : (s : Layout) (item : Item) (old mid new : AccountView) (change : Change) (fault : BookFault)
    (code : ℕ) → item.what ≡ Ok change
    → takes s change ≡ true → refused_by old.book change ≡ Some fault → mid.book ≡ old.book
    → mid.refusals ≡ old.refusals → code ≡ code_of_refusal s fault
    → new ≡ with_refusal mid item.number code → Enters s item old new
Enters-refused s item old mid new change fault code says taken refused books notes coded noted =
    Enters-Obeys s item old new (Refuse (code_of_refusal s fault))
    (code_in-refused_by s old.book item.what change (Some fault) says taken refused)
    (noted ∙ (λ i. record { book = books i; refusals = notes i ++ refusal item.number (coded i) ∷ [] }))

-- ---- at the source of an item

-- a change of an account is a weaker one of it
pub AtSource-weaker : (P Q : AccountView → AccountView → Type 0) (source : ℕ) (old new : LedgerView)
    → ((account : AccountView) → P (account_of old source) account → Q (account_of old source) account)
    → AtSource P source old new → AtSource Q source old new
AtSource-weaker P Q source old new weaker at = record {
  account = at.account;
  changed = weaker at.account at.changed;
  accounts = at.accounts;
  schema = at.schema;
}

-- a source that put a fact, or took one out, did what the item came to
pub AtSource-put : (number : ℕ) (id : List ℕ) (out : Option Fact) (fact : Fact) (source : ℕ) (old new : LedgerView)
    → AtSource (Exchanges id out (Some fact)) source old new → AtSource (Obeys number (Put id fact)) source old new
AtSource-put number id out fact source old new at =
    AtSource-weaker (Exchanges id out (Some fact)) (Obeys number (Put id fact)) source old new
    (λ account exchanged. Exchanges-was id out (Some fact) _ account exchanged) at

pub AtSource-take : (number : ℕ) (id : List ℕ) (out : Option Fact) (source : ℕ) (old new : LedgerView)
    → AtSource (Exchanges id out None) source old new → AtSource (Obeys number (Take id)) source old new
AtSource-take number id out source old new at =
    AtSource-weaker (Exchanges id out None) (Obeys number (Take id)) source old new
    (λ account exchanged. Exchanges-was id out None _ account exchanged) at

-- and so took the item
pub AtSource-Obeys : (item : Item) (source : ℕ) (old new : LedgerView) (ruling : Ruling)
    → IsRuling old.schema (account_of old source).book item.what ruling
    → AtSource (Obeys item.number ruling) source old new → AtSource (Enters old.schema item) source old new
AtSource-Obeys item source old new ruling is at =
    AtSource-weaker (Obeys item.number ruling) (Enters old.schema item) source old new
    (λ account obeys. Enters-Obeys old.schema item (account_of old source) account ruling is obeys) at

-- a change of one account leaves as many
pub AtSource-length : (P : AccountView → AccountView → Type 0) (source : ℕ) (old new : LedgerView)
    → AtSource P source old new → length new.accounts ≡ length old.accounts
AtSource-length P source old new at = ap length at.accounts ∙ length-set old.accounts (source - 1) at.account

-- a removal is no refusal, and puts no fact
pub IsRemoval-refused : (s : Layout) (book : Entries) (what : Result Change LineFault) (code : ℕ)
    → code_in s book what ≡ Some code → IsRemoval s book what → ⊥
IsRemoval-refused s book what code refused removal = cc (sym removal.lawful ∙ refused)

pub IsRemoval-puts : (s : Layout) (book : Entries) (what : Result Change LineFault) (id : List ℕ) (fact : Fact)
    → Puts s book what id (Some fact) → IsRemoval s book what → ⊥
IsRemoval-puts s book what id fact puts removal =
    let same : Delete removal.id ≡ puts.change = cc (sym removal.says ∙ puts.says) in
    cc (ap (λ change. fact_put change (fact_at book id)) same ∙ puts.comes)
