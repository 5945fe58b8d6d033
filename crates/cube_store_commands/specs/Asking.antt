-- What a question over feeds and a store writes and leaves (this project's choice).
use Rattle.std.specs.Prelude.{◌≡◌, ◌≢◌, ◌⊎◌, ℕ, true, List, map, Option, Some, None}
use Rattle.sqlite_trees.specs.Tree.{Trees}
use Rattle.sqlite_trees.specs.View.{View}
use Rattle.cube_core.specs.Arrival.{Arrivals, of_sources}
use Rattle.cube_core.specs.Layout.{Layout}
use Rattle.cube_core.specs.Refusals.{refusals_of}
use Rattle.cube_core.specs.Run.{SourceBytes}
use Rattle.cube_core.specs.declared.change.Item.{Item}
use Rattle.cube_core.specs.declared.change.Refusal.{Refusal}
use Rattle.cube_core.specs.declared.query.QueryFault.TheVariants.{Memory}
use Rattle.cube_ledger.specs.Ledger.{refusal}
use Rattle.cube_store.specs.Rows.{Entry}
use Rattle.cube_store.specs.State.{held_in, stored_in, stored_form, Holds}
use Rattle.cube_live.specs.Opening.{StartsOver}
use Rattle.cube_store_commands.specs.Replay.{arrivals_from}
use Rattle.cube_tool.specs.Answering.{HasTooManyCells, MayAnswerOver, first_refusal, question_fault, status_over}
use Rattle.cube_tool.specs.Run.{ExplainsRun, IsTextOn, OfFeeds, Wrote, WroteFirst}
use Rattle.cube_tool.specs.Session.{AreWithin}
use Rattle.cube_tool.specs.declared.command.failure.Failure.{Failure}
use Rattle.cube_tool.specs.declared.command.failure.Failure.TheVariants.{Query, Run, LineRefused, TooManyCells}
use Rattle.cube_tool.specs.declared.command.status.Status.{Status}
use Rattle.cube_tool.specs.declared.command.status.Status.TheVariants.{Done}
use Rattle.cube_tool.specs.declared.command.terms.Terms.{Terms}
use Rattle.cube_tool.specs.declared.fault.RunFault.TheVariants as run_fault
use Rattle.cube_tool.specs.declared.question.Question.{Question}
use Rattle.cube_store_commands.specs.Stored.{HasTooManyOver}
use Rattle.cube_store_commands.specs.declared.failure.StoredFailure.{StoredFailure}
use Rattle.cube_store_commands.specs.declared.failure.StoredFailure.TheVariants as stored

-- the refusals of each of the 64 sources at an arrival list
abbrev pub refusals_at : Layout → Arrivals → List (List Refusal)
refusals_at s arrivals = map (refusals_of s) (of_sources 64 arrivals)

-- a text is that of a question on terms at an arrival list: it tells what is asked of those of the facts that survive
-- in all 64 sources of which all conditions hold, and of the refusals of each
abbrev pub IsTextAt : Terms → Question → Layout → Arrivals → List ℕ → Type 0
IsTextAt terms question s arrivals text =
    IsTextOn terms.conditions.items question s (of_sources 64 arrivals) text

-- a question that isn't refused was answered on terms at an arrival list: its text was written whole, and the status
-- tells whether an item of it is refused, as none is where no line may be; the cube of its facts of interest has no more
-- cells than it may have, and no source a record past those that the schema takes
pub record AnsweredAt (terms : Terms) (question : Question) (s : Layout) (arrivals : Arrivals) (status : Status)
    (old new : Option (List ℕ)) : Type 0 where
  pub wrote : Wrote (IsTextAt terms question s arrivals) old new
  pub asked : question_fault s question ≡ None
  pub within : AreWithin s arrivals
  pub status_is : status ≡ status_over s (of_sources 64 arrivals)
  pub strict : terms.is_strict ≡ true → status ≡ Done
  pub may : MayAnswerOver terms s (of_sources 64 arrivals)

-- what a failure leaves of a question on terms at an arrival list: nothing was written where its first refusal is
-- told, since no line may be refused, where there are more cells than there may be, where the question is refused or
-- memory ran out, and of a failed write the first bytes of the text, so many of them
abbrev pub FailsAt : Terms → Question → Layout → Arrivals → Failure → Option (List ℕ) → Option (List ℕ) → Type 0
FailsAt terms question s arrivals (LineRefused source number code) old new =
    (new ≡ old) × (terms.is_strict ≡ true)
    × (first_refusal 1 (refusals_at s arrivals) ≡ Some (source, refusal number code))
FailsAt terms question s arrivals TooManyCells old new =
    (new ≡ old) × HasTooManyCells terms s (of_sources 64 arrivals)
FailsAt terms question s arrivals (Query fault) old new =
    (new ≡ old) × (question_fault s question ≡ Some fault) × MayAnswerOver terms s (of_sources 64 arrivals)
FailsAt terms question s arrivals (Run run_fault.Full) old new = new ≡ old
FailsAt terms question s arrivals (Run (run_fault.Write sent)) old new =
    WroteFirst (IsTextAt terms question s arrivals) sent old new × MayAnswerOver terms s (of_sources 64 arrivals)
FailsAt terms question s arrivals _ old new = ⊥

-- a failure is told so: as it is, but that memory ran out is no fault of the question, of a drill-down neither
abbrev pub IsToldAs : Failure → Failure → Type 0
IsToldAs failure told =
    ((failure ≡ Query Memory) × (told ≡ Run run_fault.Full)) ⊎ ((failure ≢ Query Memory) × (told ≡ failure))

-- this holds at an arrival list that has the items of the feeds and then the stored changes
pub record AfterStored (s : Layout) (feeds : List (List Item)) (was : View) (Stands : Arrivals → Type 0) : Type 0 where
  pub start : Arrivals
  pub starts : StartsOver feeds start
  pub holds : Stands (arrivals_from s start (stored_in was))

-- a question over feeds and a store was answered over the items of the feeds and then the stored changes;
-- the store has these, with the notes on the feeds, and so leaves each crash
pub record AnswersStored (terms : Terms) (question : Question) (s : Layout) (feeds : List (List Item)) (was : View)
    (notes : List Entry) (status : Status) (now : View) (Leaves : Trees → Type 0) (old new : Option (List ℕ))
    : Type 0 where
  pub answered : AfterStored s feeds was (λ arrivals. AnsweredAt terms question s arrivals status old new)
  pub held : held_in now ≡ stored_in was
  pub leaves : (db : Trees) → Leaves db → Holds (stored_form was) db (stored_in was) notes

-- a crash leaves what it left before
abbrev pub LeavesSame : (Trees → Type 0) → (Trees → Type 0) → Type 0
LeavesSame Before Leaves = (db : Trees) → Leaves db → Before db

-- what was written where a question over feeds and a store wasn't answered:
-- nothing where the feeds or the store weren't taken, where a refusal is told, there are more cells than there may be,
-- the question is refused or memory ran out, and of a failed write the first bytes of the text, so many of them
abbrev pub LeavesOfText : Terms → Question → Layout → SourceBytes → View → StoredFailure → Option (List ℕ)
    → Option (List ℕ) → Type 0
LeavesOfText terms question s sources was (stored.Failure (LineRefused source number code)) old new =
    (new ≡ old) × (terms.is_strict ≡ true) × OfFeeds s sources (λ feeds. AfterStored s feeds was (λ arrivals.
    first_refusal 1 (refusals_at s arrivals) ≡ Some (source, refusal number code)))
LeavesOfText terms question s sources was (stored.Failure TooManyCells) old new =
    (new ≡ old) × OfFeeds s sources (λ feeds. AfterStored s feeds was (λ arrivals.
    HasTooManyCells terms s (of_sources 64 arrivals)))
LeavesOfText terms question s sources was (stored.Failure (Query fault)) old new =
    (new ≡ old) × (question_fault s question ≡ Some fault)
    × OfFeeds s sources (λ feeds. AfterStored s feeds was (λ arrivals.
    MayAnswerOver terms s (of_sources 64 arrivals)))
LeavesOfText terms question s sources was (stored.Failure (Run (run_fault.Write sent))) old new =
    OfFeeds s sources (λ feeds. AfterStored s feeds was (λ arrivals.
    WroteFirst (IsTextAt terms question s arrivals) sent old new
    × MayAnswerOver terms s (of_sources 64 arrivals)))
LeavesOfText terms question s sources was (stored.Failure (Run fault)) old new =
    (new ≡ old) × ExplainsRun s sources fault
LeavesOfText terms question s sources was (stored.Failure _) old new = ⊥
LeavesOfText terms question s sources was (stored.Store fault) old new = new ≡ old
LeavesOfText terms question s sources was (stored.TooMany source) old new =
    OfFeeds s sources (λ feeds. (new ≡ old) × HasTooManyOver s feeds was source)
