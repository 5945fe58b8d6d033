-- What a session over a store promises:
-- over which items its answers are, and what of its changes a crash may leave (this project's choice).
use Rattle.std.specs.Prelude.{◌≡◌, ◌≤◌, ◌+◌, ◌++◌, ◌⊎◌, ⊤, ℕ, List, [], length, take, Option}
use Rattle.sqlite_trees.specs.Tree.{Trees}
use Rattle.sqlite_trees.specs.View.{View}
use Rattle.cube_core.specs.Arrival.{Arrivals}
use Rattle.cube_core.specs.Layout.{Layout}
use Rattle.cube_store.specs.Making.{LeavesNotes}
use Rattle.cube_store.specs.Rows.{Entry}
use Rattle.cube_store.specs.State.{held_in, stored_in, stored_form, Holds}
use Rattle.cube_live.specs.Keeping.{Keeping, LeavesAt, keeping_after}
use Rattle.cube_live.specs.Live.{LiveView, LiveStandsAt}
use Rattle.cube_live.specs.Serving.{Answered}
use Rattle.cube_live.specs.Session.{arrivals_after}
use Rattle.cube_live.specs.declared.session.SessionFault.{SessionFault}
use Rattle.cube_store_commands.specs.Records.{stored_all}
use Rattle.cube_store_commands.specs.Replay.{PassesLast, arrivals_from}
use Rattle.cube_store_commands.specs.declared.session.StoredFault.{StoredFault}
use Rattle.cube_store_commands.specs.declared.session.StoredFault.TheVariants.{Store, TooMany, Session}
use Rattle.cube_store_commands.specs.declared.session.ResumeFault.{ResumeFault}
use Rattle.cube_store_commands.specs.declared.session.ResumeFault.TheVariants as resume
use Rattle.cube_store.specs.Codes.{TellsFailedCall}
use Rattle.cube_store.specs.declared.store_fault.StoreFault.{StoreFault}

-- what a journal has of a session before its first record
abbrev pub nothing : Keeping
nothing = record { told = []; sure = 0 }

-- the changes among the first records of a session, so many, as they are stored
abbrev pub changes_in : Layout → List (List (List ℕ)) → List Entry
changes_in s records = stored_all (keeping_after s nothing records).told

-- how many of them stand before the last of these records that is answered
abbrev pub certain_in : Layout → List (List (List ℕ)) → ℕ
certain_in s records = (keeping_after s nothing records).sure

-- the changes of a store have more of a source than the schema takes, behind what a cube stands at
abbrev pub HasTooMany : LiveView → View → ℕ → Type 0
HasTooMany live was source =
    (start : Arrivals) → LiveStandsAt live start → PassesLast live.schema start (stored_in was) source

-- why the changes of a store aren't taken:
-- one that is to be taken has more of a source than the schema takes, or a call on it failed (this project's choice)
abbrev pub ExplainsResume : LiveView → View → Type 0 → ResumeFault → Type 0
ExplainsResume live was taken (resume.Store fault) = taken → TellsFailedCall fault
ExplainsResume live was taken (resume.TooMany source) = HasTooMany live was source

-- where a store isn't taken, and that isn't for too many changes of a source, this holds of what is told
abbrev pub IfUntaken : (StoreFault → Type 0) → ResumeFault → Type 0
IfUntaken holds (resume.Store fault) = holds fault
IfUntaken holds (resume.TooMany source) = ⊤

-- what a session is told whose store wasn't taken
abbrev pub stored_fault_of : ResumeFault → StoredFault
stored_fault_of (resume.Store fault) = Store fault
stored_fault_of (resume.TooMany source) = TooMany source

-- a session over a store was served to its end: the store has the changes that it had and those of the session,
-- byte for byte and in their order, and so leaves each crash; the replies to all records went out,
-- from a start at which the stored changes stand before the first record, and the cube stands after them
pub record ServesStored (s : Layout) (was : View) (notes : List Entry) (records : List (List (List ℕ)))
    (before after : LiveView) (now : View) (Leaves : Trees → Type 0) (old new : Option (List ℕ)) : Type 0 where
  pub held : held_in now ≡ stored_in was ++ changes_in s records
  pub leaves : (db : Trees) → Leaves db → Holds (stored_form was) db (stored_in was ++ changes_in s records) notes
  pub answered : (start : Arrivals) → LiveStandsAt before start
      → Answered s records (arrivals_from s start (stored_in was)) (length records) old new
  pub stands : (start : Arrivals) → LiveStandsAt before start
      → LiveStandsAt after (arrivals_after s (arrivals_from s start (stored_in was)) records)

-- a crash leaves the stored changes and a first part of those among the first records, so many or one more,
-- and of these all that stand before the last that was answered
abbrev pub LeavesFirst : Layout → View → List Entry → List (List (List ℕ)) → ℕ → (Trees → Type 0) → Type 0
LeavesFirst s was notes records count Leaves = (db : Trees) → Leaves db
    → (part : ℕ) × (certain_in s (take count records) ≤ part)
    × Holds (stored_form was) db (stored_in was ++ take part (changes_in s (take (count + 1) records))) notes

-- a session failed so after some of its records: the replies to these went out,
-- but for a failed write the first bytes of them, and a crash leaves a first part of its changes
abbrev pub BreaksSession : Layout → View → List Entry → List (List (List ℕ)) → LiveView → (Trees → Type 0)
    → Option (List ℕ) → Option (List ℕ) → SessionFault → Type 0
BreaksSession s was notes records live Leaves old new fault = (count : ℕ) × LeavesFirst s was notes records count Leaves
    × ((start : Arrivals) → LiveStandsAt live start
    → LeavesAt s records (arrivals_from s start (stored_in was)) fault count old new)

-- the same where the store wasn't taken: nothing went out, and a crash leaves what it left before or,
-- in a store without a row, the notes alone
abbrev pub BreaksStored : Layout → View → List Entry → List (List (List ℕ)) → LiveView → (Trees → Type 0)
    → (Trees → Type 0) → Option (List ℕ) → Option (List ℕ) → StoredFault → Type 0
BreaksStored s was notes records live Before Leaves old new (Store fault) =
    (new ≡ old) × ((db : Trees) → Leaves db → LeavesNotes was notes db ⊎ Before db)
BreaksStored s was notes records live Before Leaves old new (TooMany source) =
    (new ≡ old) × ((db : Trees) → Leaves db → LeavesNotes was notes db ⊎ Before db) × HasTooMany live was source
BreaksStored s was notes records live Before Leaves old new (Session fault) =
    BreaksSession s was notes records live Leaves old new fault

-- where the store isn't taken, and that isn't for too many changes of a source, this holds of what a session is told
abbrev pub IfRefused : (StoreFault → Type 0) → StoredFault → Type 0
IfRefused holds (Store fault) = holds fault
IfRefused holds (TooMany source) = ⊤
IfRefused holds (Session fault) = ⊤

-- where the store isn't taken nothing goes out
abbrev pub WritesNothing : StoredFault → Option (List ℕ) → Option (List ℕ) → Type 0
WritesNothing (Store fault) old new = new ≡ old
WritesNothing (TooMany source) old new = new ≡ old
WritesNothing (Session fault) old new = ⊤
