-- How the program ends: its statuses, and what a command leaves written (this project's choice).
use Rattle.std.specs.Prelude.{◌≡◌, ◌≤◌, ⊤, ℕ, List, [], ◌∷◌, ◌++◌, length, take, codes, Option, IfSome, Result, Ok, Err}
use Rattle.std.specs.Io.KnownBytes.{Appends}
use Rattle.cube_core.specs.Layout.{Layout}
use Rattle.cube_core.specs.Query.{Says, pattern_of}
use Rattle.cube_core.specs.SchemaDocument.{AnswersBytes}
use Rattle.cube_core.specs.declared.change.Refusal.{Refusal}
use Rattle.cube_core.specs.declared.key.Key.{Key}
use Rattle.cube_core.specs.declared.query.QueryFault.{QueryFault}
use Rattle.cube_core.specs.declared.schema_fault.SchemaFault.TheVariants as schema_fault
use Rattle.cube_live.specs.Request.{cell_by}
use Rattle.cube_tool.specs.declared.fault.RunFault.TheVariants as run_fault
use Rattle.cube_tool.specs.declared.command.status.Status.{Status}
use Rattle.cube_tool.specs.declared.command.status.Status.TheVariants.{Done, Failed, WrongWords, WrongSchema}
use Rattle.cube_tool.specs.declared.command.status.Status.TheVariants.{LinesRefused}
use Rattle.cube_tool.specs.declared.command.failure.Failure.{Failure}
use Rattle.cube_tool.specs.declared.command.failure.Failure.TheVariants.{Unreadable, Schema, TooManyFeeds, InputTaken}
use Rattle.cube_tool.specs.declared.command.failure.Failure.TheVariants.{NoRandomKey, FeedUnreadable, Query}
use Rattle.cube_tool.specs.declared.command.failure.Failure.TheVariants.{UnknownCode, Run, Session, TooManyCubes}
use Rattle.cube_tool.specs.declared.command.failure.Failure.TheVariants.{SamePath, Merge, LineRefused, TooManyCells}

-- the number of a status
abbrev pub status_code : Status → ℕ
status_code Done = 0
status_code Failed = 1
status_code WrongWords = 2
status_code WrongSchema = 3
status_code LinesRefused = 4

-- the status that a failure ends with
abbrev pub status_of : Failure → Status
status_of Unreadable = WrongSchema
status_of (Schema fault) = WrongSchema
status_of TooManyFeeds = WrongWords
status_of InputTaken = WrongWords
status_of NoRandomKey = Failed
status_of (FeedUnreadable source) = Failed
status_of (Query fault) = WrongWords
status_of UnknownCode = WrongWords
status_of (Run fault) = Failed
status_of (LineRefused source number code) = Failed
status_of TooManyCells = Failed
status_of (Session fault) = Failed
status_of TooManyCubes = WrongWords
status_of (SamePath input) = WrongWords
status_of (Merge fault) = Failed

-- the status of an answer that was written whole, by the refusals of each source: it tells whether there are any
abbrev pub status_after : List (List Refusal) → Status
status_after [] = Done
status_after ([] ∷ sources) = status_after sources
status_after ((refusal ∷ refusals) ∷ sources) = LinesRefused

-- the most bytes that a schema file may have
abbrev pub schema_limit : ℕ
schema_limit = 1048576

-- what may be answered to a schema file:
-- what its bytes say where they aren't too many, that it couldn't be read, or that memory ran out
abbrev pub AnswersFile : List ℕ → Result Layout Failure → Type 0
AnswersFile bytes (Ok schema) = (length bytes ≤ schema_limit) × AnswersBytes bytes (Ok schema)
AnswersFile bytes (Err Unreadable) = ⊤
AnswersFile bytes (Err (Schema schema_fault.Memory)) = ⊤
AnswersFile bytes (Err (Schema fault)) = (length bytes ≤ schema_limit) × AnswersBytes bytes (Err fault)
AnswersFile bytes (Err _) = ⊥

-- a schema file is right: it writes a schema
abbrev pub IsRightFile : List ℕ → Type 0
IsRightFile bytes = (schema : Layout) × AnswersFile bytes (Ok schema)

-- reading the bytes of a file fails by the reader, by the limit or by memory
abbrev pub IsReadFailure : Failure → Type 0
IsReadFailure Unreadable = ⊤
IsReadFailure (Schema fault) = fault ≡ schema_fault.Memory
IsReadFailure _ = ⊥

-- a schema isn't had for a cause of its own: no run failed, and nothing was written
abbrev pub IsSchemaFailure : Failure → Type 0
IsSchemaFailure Unreadable = ⊤
IsSchemaFailure (Schema fault) = ⊤
IsSchemaFailure _ = ⊥

-- the line that tells that a schema is right
abbrev pub schema_ok_line : List ℕ
schema_ok_line = codes "ok" ++ 10 ∷ []

-- what a failed check of a schema file leaves: nothing was written, but of a right file the first bytes of the line
abbrev pub CheckLeaves : Option (List ℕ) → Failure → Option (List ℕ) → Option (List ℕ) → Type 0
CheckLeaves file Unreadable old new = new ≡ old
CheckLeaves file (Schema fault) old new = (new ≡ old) × IfSome file (λ bytes. AnswersFile bytes (Err (Schema fault)))
CheckLeaves file (Run (run_fault.Write sent)) old new =
    (sent ≤ length schema_ok_line) × Appends old new (take sent schema_ok_line) × IfSome file IsRightFile
CheckLeaves file _ old new = ⊥

-- what may be answered to a query's word: what is said of it, or that memory ran out
abbrev pub AnswersQuery : {T : Type 0} → Result T QueryFault → Result T Failure → Type 0
AnswersQuery said (Ok value) = Says said (Ok value)
AnswersQuery said (Err (Query fault)) = Says said (Err fault)
AnswersQuery said (Err _) = ⊥

-- the answer to a query's word that takes no memory: what is said of it
abbrev pub answer_of : {T : Type 0} → Result T QueryFault → Result T Failure
answer_of (Ok value) = Ok value
answer_of (Err fault) = Err (Query fault)

-- the cell that a word spells under a schema: a pattern that leaves no dimension open
abbrev pub key_of_word : Layout → List ℕ → Result Key QueryFault
key_of_word s word = cell_by (pattern_of s word)
