-- What a question over what was built answers, and how a command over feeds ends (this project's choice).
use Rattle.std.specs.Prelude.{◌≡◌, ◌<◌, ◌+◌, ⊤, ℕ, Bool, true, List, [], ◌∷◌, length, map, Option, Some, None, Result, Ok, Err}
use Rattle.cube_core.specs.Conditions.{of_interest}
use Rattle.cube_core.specs.Layout.{Layout, number_of_dimensions}
use Rattle.cube_core.specs.Query.{drill_fault}
use Rattle.cube_core.specs.Refusals.{refusals_of}
use Rattle.cube_core.specs.Run.{SourceBytes}
use Rattle.cube_core.specs.Sources.{SurviveTogether}
use Rattle.cube_core.specs.declared.change.Item.{Item}
use Rattle.cube_core.specs.declared.change.Refusal.{Refusal}
use Rattle.cube_core.specs.declared.condition.Condition.{Condition}
use Rattle.cube_core.specs.declared.fact.Fact.{Fact}
use Rattle.cube_core.specs.declared.query.QueryFault.{QueryFault}
use Rattle.cube_core.specs.declared.query.QueryFault.TheVariants as query_fault
use Rattle.cube_core.specs.declared.schema_fault.SchemaFault.TheVariants as schema_fault
use Rattle.cube_tool.specs.declared.fault.RunFault.TheVariants as run_fault
use Rattle.cube_build.specs.Interest.{StandsWhere}
use Rattle.cube_build.specs.Taken.{TakenStandsWhere}
use Rattle.cube_build.specs.Parts.{BuiltView, StandsInParts, first_ledger}
use Rattle.cube_tool.specs.Command.{status_after}
use Rattle.cube_tool.specs.MaxCells.{HasCellsBeyond, HasCellsWithin}
use Rattle.cube_ledger.specs.Ledger.{refusal}
use Rattle.cube_tool.specs.Run.{ExplainsPlainRun, ExplainsRun, IsTextOn, Leaves, OfFeeds, StandsOver, Tells}
use Rattle.cube_tool.specs.Run.{Wrote, WroteFirst}
use Rattle.cube_tool.specs.declared.fed.Fed.{Fed}
use Rattle.cube_tool.specs.declared.fed.Fed.TheVariants as fed
use Rattle.cube_tool.specs.declared.question.Question.{Question}
use Rattle.cube_tool.specs.declared.question.Question.TheVariants.{Cube, Slice, Drill, RollUp, Refusals}
use Rattle.cube_tool.specs.declared.fault.TextFault.{TextFault}
use Rattle.cube_tool.specs.declared.fault.TextFault.TheVariants as text_fault
use Rattle.cube_tool.specs.declared.command.status.Status.{Status}
use Rattle.cube_tool.specs.declared.command.status.Status.TheVariants.{Done}
use Rattle.cube_tool.specs.declared.command.failure.Failure.{Failure}
use Rattle.cube_tool.specs.declared.command.failure.Failure.TheVariants.{Query, Run, Schema, LineRefused, TooManyCells}
use Rattle.cube_tool.specs.declared.command.terms.Terms.{Terms}

-- the refusals of each source of a run
abbrev pub refusals_of_run : BuiltView → List (List Refusal)
refusals_of_run built = map (λ account. account.refusals) (first_ledger built.builders).accounts

-- a question can be asked under a schema: a drill-down or a roll-up is along one of the dimensions of its cube,
-- from a key with a coordinate for each
abbrev pub Fits : Layout → Question → Type 0
Fits s Cube = ⊤
Fits s (Slice pattern) = ⊤
Fits s (Drill key dimension) = (dimension < number_of_dimensions s) × (length key.coords ≡ number_of_dimensions s)
Fits s (RollUp key dimension) = (dimension < number_of_dimensions s) × (length key.coords ≡ number_of_dimensions s)
Fits s Refusals = ⊤

-- why a question is refused under a schema, whatever the facts
abbrev pub question_fault : Layout → Question → Option QueryFault
question_fault s Cube = None
question_fault s (Slice pattern) = None
question_fault s (Drill key dimension) = drill_fault s.grouping_sets dimension key
question_fault s (RollUp key dimension) = None
question_fault s Refusals = None

-- the fault that is told of a question that may be refused for one that is said, and else because memory ran out alone
abbrev pub IsToldOf : Option QueryFault → QueryFault → Type 0
IsToldOf (Some said) fault = fault ≡ said
IsToldOf None fault = fault ≡ query_fault.Memory

-- the fault for which a question is refused: a drill-down alone is
abbrev pub IsQueryFault : Layout → Question → QueryFault → Type 0
IsQueryFault s (Drill key dimension) fault = IsToldOf (drill_fault s.grouping_sets dimension key) fault
IsQueryFault s _ fault = ⊥

-- what writing a text of which this holds comes to:
-- it was written whole, or its first bytes, as many as the fault says, or nothing where memory ran out
abbrev pub Writes : {T : Type 0} → (List ℕ → Type 0) → Result T TextFault → Option (List ℕ) → Option (List ℕ) → Type 0
Writes Holds (Ok _) old new = Wrote Holds old new
Writes Holds (Err text_fault.Full) old new = new ≡ old
Writes Holds (Err (text_fault.Write sent)) old new = WroteFirst Holds sent old new

-- what answering a question over these facts and refusals comes to: its text was written whole, where the question
-- isn't refused, or its first bytes, as many as the failure says, or nothing, where it is refused or memory ran out
abbrev pub Answers : {T : Type 0} → Question → Layout → List Fact → List (List Refusal) → Result T Failure
    → Option (List ℕ) → Option (List ℕ) → Type 0
Answers question s facts refusals (Ok _) old new =
    Wrote (Tells question s facts refusals) old new × (question_fault s question ≡ None)
Answers question s facts refusals (Err (Query fault)) old new = (new ≡ old) × IsQueryFault s question fault
Answers question s facts refusals (Err (Run run_fault.Full)) old new = (new ≡ old) × (question_fault s question ≡ None)
Answers question s facts refusals (Err (Run (run_fault.Write sent))) old new =
    WroteFirst (Tells question s facts refusals) sent old new
Answers question s facts refusals (Err _) old new = ⊥

-- the status of a question over feeds that was answered: it tells whether a line of a feed was refused
abbrev pub status_over : Layout → List (List Item) → Status
status_over s feeds = status_after (map (refusals_of s) feeds)

-- so many builders have taken these feeds
abbrev pub HasTaken : Layout → ℕ → List (List Item) → BuiltView → Type 0
HasTaken s parts feeds built = StandsOver (StandsInParts s (length feeds) parts built) feeds

-- so many builders have taken these feeds, and count the facts of interest alone: one of which no cube was filled, whose
-- finest cells have them, or builders each of which has them in the cube of its part
abbrev pub HasTakenOn : List Condition → Layout → ℕ → List (List Item) → Fed → Type 0
HasTakenOn conditions s parts feeds (fed.Taken taken) =
    (parts ≡ 1) × StandsOver (TakenStandsWhere s conditions (length feeds) taken) feeds
HasTakenOn conditions s parts feeds (fed.Built built) =
    StandsOver (StandsWhere s conditions (length feeds) parts built) feeds

-- the refusals of each source of what builders took
abbrev pub refusals_of_fed : Fed → List (List Refusal)
refusals_of_fed (fed.Taken taken) = map (λ account. account.refusals) taken.ledger.accounts
refusals_of_fed (fed.Built built) = refusals_of_run built

-- the first refusal of feeds, with its source, which is counted from this number on: of the lowest source that has one
abbrev pub first_refusal : ℕ → List (List Refusal) → Option (ℕ × Refusal)
first_refusal source [] = None
first_refusal source ([] ∷ others) = first_refusal (source + 1) others
first_refusal source ((refusal ∷ refusals) ∷ others) = Some (source, refusal)

-- an answer may be given over these refusals: where no line may be refused, none was
abbrev pub MayAnswer : Bool → List (List Refusal) → Type 0
MayAnswer is_strict refusals = is_strict ≡ true → first_refusal 1 refusals ≡ None

-- a failure tells the first refusal of these, where no line may be refused
abbrev pub IsFirstRefusal : Bool → List (List Refusal) → Failure → Type 0
IsFirstRefusal is_strict refusals (LineRefused source number code) =
    (is_strict ≡ true) × (first_refusal 1 refusals ≡ Some (source, refusal number code))
IsFirstRefusal is_strict refusals _ = ⊥

-- it may be given on terms over these facts too: their cube has no more cells than it may have
abbrev pub MayAnswerOn : Terms → Layout → List Fact → List (List Refusal) → Type 0
MayAnswerOn terms s facts refusals = MayAnswer terms.is_strict refusals × HasCellsWithin terms.max_cells s facts

-- what answering a question over these facts and refusals on terms comes to: where it may be answered, and isn't
-- refused, its text was written whole, and the status tells whether a line was refused
pub record AnswersOn (terms : Terms) (question : Question) (s : Layout) (facts : List Fact)
    (refusals : List (List Refusal)) (status : Status) (old new : Option (List ℕ)) : Type 0 where
  pub wrote : Wrote (Tells question s facts refusals) old new
  pub asked : question_fault s question ≡ None
  pub status_is : status ≡ status_after refusals
  pub may : MayAnswerOn terms s facts refusals

-- what a failure to answer it leaves: nothing was written where the first refusal is told, there are more cells than
-- there may be, the question is refused or memory ran out, and of a failed write the first bytes of the text, so many
-- of them
abbrev pub FailsOn : Terms → Question → Layout → List Fact → List (List Refusal) → Failure → Option (List ℕ)
    → Option (List ℕ) → Type 0
FailsOn terms question s facts refusals (LineRefused source number code) old new =
    (new ≡ old) × (terms.is_strict ≡ true) × (first_refusal 1 refusals ≡ Some (source, refusal number code))
FailsOn terms question s facts refusals TooManyCells old new =
    (new ≡ old) × MayAnswer terms.is_strict refusals × HasCellsBeyond terms.max_cells s facts
FailsOn terms question s facts refusals (Query fault) old new =
    (new ≡ old) × IsQueryFault s question fault × MayAnswerOn terms s facts refusals
FailsOn terms question s facts refusals (Run run_fault.Full) old new = new ≡ old
FailsOn terms question s facts refusals (Run (run_fault.Write sent)) old new =
    WroteFirst (Tells question s facts refusals) sent old new × MayAnswerOn terms s facts refusals
FailsOn terms question s facts refusals _ old new = ⊥

-- this holds of the facts of interest of those that survive in all feeds
pub record OfInterestIn (conditions : List Condition) (s : Layout) (feeds : List (List Item))
    (Holds : List Fact → Type 0) : Type 0 where
  pub facts : List Fact
  pub survive : SurviveTogether s feeds facts
  pub holds : Holds (of_interest conditions facts)

-- an answer may be given on terms over feeds: where no line may be refused, none of theirs was, and the cube of their
-- facts of interest has no more cells than it may have
abbrev pub MayAnswerOver : Terms → Layout → List (List Item) → Type 0
MayAnswerOver terms s feeds = MayAnswer terms.is_strict (map (refusals_of s) feeds)
    × OfInterestIn terms.conditions.items s feeds (HasCellsWithin terms.max_cells s)

-- the cube of their facts of interest has more cells than it may have, and where no line may be refused, none was
abbrev pub HasTooManyCells : Terms → Layout → List (List Item) → Type 0
HasTooManyCells terms s feeds = MayAnswer terms.is_strict (map (refusals_of s) feeds)
    × OfInterestIn terms.conditions.items s feeds (HasCellsBeyond terms.max_cells s)

-- what a failure of a question leaves that is asked of feeds on terms: as of any question, and where no line may be
-- refused the first refusal may be told, and where there are more cells than there may be, that, once all feeds were
-- taken, when nothing was written; where the question is refused or the writing failed it might have been answered
abbrev pub FailsOnTerms : Terms → Question → Layout → SourceBytes → Failure → Option (List ℕ) → Option (List ℕ) → Type 0
FailsOnTerms terms question s sources (LineRefused source number code) old new =
    (new ≡ old) × (terms.is_strict ≡ true)
    × OfFeeds s sources (λ feeds. first_refusal 1 (map (refusals_of s) feeds) ≡ Some (source, refusal number code))
FailsOnTerms terms question s sources TooManyCells old new = (new ≡ old) × OfFeeds s sources (HasTooManyCells terms s)
FailsOnTerms terms question s sources (Query fault) old new =
    (new ≡ old) × IsQueryFault s question fault × OfFeeds s sources (MayAnswerOver terms s)
FailsOnTerms terms question s sources (Run (run_fault.Write sent)) old new =
    OfFeeds s sources (λ feeds. WroteFirst (IsTextOn terms.conditions.items question s feeds) sent old new
    × MayAnswerOver terms s feeds)
FailsOnTerms terms question s sources (Run fault) old new = (new ≡ old) × ExplainsRun s sources fault
FailsOnTerms terms question s sources _ old new = ⊥

-- what a failure of the program without words leaves; of its schema nothing but memory can fail
abbrev pub SampleLeaves : Layout → SourceBytes → Failure → Option (List ℕ) → Option (List ℕ) → Type 0
SampleLeaves s sources (Schema fault) old new = (fault ≡ schema_fault.Memory) × (new ≡ old)
SampleLeaves s sources (Run fault) old new = Leaves (ExplainsPlainRun s sources) Cube s sources fault old new
SampleLeaves s sources _ old new = ⊥

-- what showing a text comes to, of which nothing is said:
-- it was written whole, or its first bytes, as many as the failure says, or nothing where memory ran out
abbrev pub ShowsText : Result Status Failure → Option (List ℕ) → Option (List ℕ) → Type 0
ShowsText (Ok status) old new = (status ≡ Done) × Wrote (λ text. ⊤) old new
ShowsText (Err (Run run_fault.Full)) old new = new ≡ old
ShowsText (Err (Run (run_fault.Write sent))) old new = WroteFirst (λ text. ⊤) sent old new
ShowsText (Err _) old new = ⊥
