-- What a question over the feeds of several sources writes, and what a fault of it leaves,
-- by the definitions alone (this project's choice).
use Rattle.std.specs.Prelude.{◌≡◌, ◌≤◌, ℕ, List, length, map, take, Option}
use Rattle.std.specs.Io.KnownBytes.{Appends}
use Rattle.std.specs.List.{AllZip}
use Rattle.cube_core.specs.Arrival.{Arrivals, of_sources}
use Rattle.cube_core.specs.Conditions.{of_interest}
use Rattle.cube_core.specs.Layout.{Layout}
use Rattle.cube_core.specs.Printed.{IsPrinted}
use Rattle.cube_core.specs.Query.{drills_down, matches, rolled_up}
use Rattle.cube_core.specs.Refusals.{refusals_of}
use Rattle.cube_core.specs.Run.{SourceBytes, AreGood, AreItemsOf}
use Rattle.cube_core.specs.Sources.{SurviveTogether}
use Rattle.cube_core.specs.Text.{text_of_refusals}
use Rattle.cube_core.specs.declared.change.Item.{Item}
use Rattle.cube_core.specs.declared.change.Refusal.{Refusal}
use Rattle.cube_core.specs.declared.condition.Condition.{Condition}
use Rattle.cube_core.specs.declared.fact.Fact.{Fact}
use Rattle.cube_ledger.specs.Build.{ExplainsBuild}
use Rattle.cube_ledger.specs.declared.fault.BuildFault.{BuildFault}
use Rattle.cube_live.specs.Shows.{IsTextWhere, is_key}
use Rattle.cube_rings.specs.FeedingAll.{ExplainsFeeding}
use Rattle.cube_rings.specs.declared.fault.FeedingFault.{FeedingFault}
use Rattle.cube_tool.specs.Faults.{fault_of_build, fault_of_feeding}
use Rattle.cube_tool.specs.declared.fault.RunFault.{RunFault}
use Rattle.cube_tool.specs.declared.fault.RunFault.TheVariants as run_fault
use Rattle.cube_tool.specs.declared.question.Question.{Question}
use Rattle.cube_tool.specs.declared.question.Question.TheVariants.{Cube, Slice, Drill, RollUp, Refusals}

-- this holds of the items of the feeds of these sources, source after source, and every feed is good
pub record OfFeeds (s : Layout) (sources : SourceBytes) (Holds : List (List Item) → Type 0) : Type 0 where
  pub feeds : List (List Item)
  pub good : AreGood s sources
  pub items : AllZip (AreItemsOf s) sources feeds
  pub holds : Holds feeds

-- a text tells what is asked of these facts and of the refusals of each source:
-- the printed cube, the rows that match, the rows that drill down, the row of the rolled-up key, or the refusals
abbrev pub Tells : Question → Layout → List Fact → List (List Refusal) → List ℕ → Type 0
Tells Cube s facts refusals text = IsPrinted s facts text
Tells (Slice pattern) s facts refusals text = IsTextWhere (matches pattern) s facts text
Tells (Drill key dimension) s facts refusals text = IsTextWhere (drills_down dimension key) s facts text
Tells (RollUp key dimension) s facts refusals text = IsTextWhere (is_key (rolled_up dimension key)) s facts text
Tells Refusals s facts refusals text = text ≡ text_of_refusals refusals

-- the text of a question over feeds:
-- it tells what is asked of the facts that survive in all feeds and of the refusals of each
pub record IsTextOf (question : Question) (s : Layout) (feeds : List (List Item)) (text : List ℕ) : Type 0 where
  pub facts : List Fact
  pub survive : SurviveTogether s feeds facts
  pub tells : Tells question s facts (map (refusals_of s) feeds) text

-- a text of which this holds was written, whole
pub record Wrote (Holds : List ℕ → Type 0) (old new : Option (List ℕ)) : Type 0 where
  pub text : List ℕ
  pub holds : Holds text
  pub written : Appends old new text

-- the first bytes of a text of which this holds were written, so many of them
pub record WroteFirst (Holds : List ℕ → Type 0) (sent : ℕ) (old new : Option (List ℕ)) : Type 0 where
  pub text : List ℕ
  pub holds : Holds text
  pub within : sent ≤ length text
  pub written : Appends old new (take sent text)

-- this stands at an arrival list that has of each source the items of its feed
pub record StandsOver (Stands : Arrivals → Type 0) (feeds : List (List Item)) : Type 0 where
  pub arrivals : Arrivals
  pub same : of_sources (length feeds) arrivals ≡ feeds
  pub stands : Stands arrivals

-- what a fault leaves of a text that these feeds have, where this explains why the fault may come:
-- of a failed write the first bytes of the text, so many of them, and of any other nothing
abbrev pub LeavesOf : (RunFault → Type 0) → (List (List Item) → List ℕ → Type 0) → Layout → SourceBytes → RunFault
    → Option (List ℕ) → Option (List ℕ) → Type 0
LeavesOf Explains Has s sources (run_fault.Write sent) old new =
    OfFeeds s sources (λ feeds. WroteFirst (Has feeds) sent old new)
LeavesOf Explains Has s sources fault old new = (new ≡ old) × Explains fault

-- what a fault of a question over feeds leaves
abbrev pub Leaves : (RunFault → Type 0) → Question → Layout → SourceBytes → RunFault → Option (List ℕ) → Option (List ℕ)
    → Type 0
Leaves Explains question s sources fault old new = LeavesOf Explains (IsTextOf question s) s sources fault old new

-- the text of a question over feeds about the facts of interest: it tells what is asked of those of the facts that
-- survive in all feeds of which all conditions hold, and of the refusals of each
pub record IsTextOn (conditions : List Condition) (question : Question) (s : Layout) (feeds : List (List Item))
    (text : List ℕ) : Type 0 where
  pub facts : List Fact
  pub survive : SurviveTogether s feeds facts
  pub tells : Tells question s (of_interest conditions facts) (map (refusals_of s) feeds) text

-- why a run over feeds wrote nothing: that for which they weren't taken;
-- out of memory only before a record was read, or where all feeds are good
pub record ExplainsRun (s : Layout) (sources : SourceBytes) (fault : RunFault) : Type 0 where
  pub why : FeedingFault
  pub is : fault ≡ fault_of_feeding why
  pub explains : ExplainsFeeding s sources why

-- why a run on one thread wrote nothing: that for which nothing was built
pub record ExplainsPlainRun (s : Layout) (sources : SourceBytes) (fault : RunFault) : Type 0 where
  pub why : BuildFault
  pub is : fault ≡ fault_of_build why
  pub explains : ExplainsBuild s sources why
