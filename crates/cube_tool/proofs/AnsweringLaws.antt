-- What the faults of a question over feeds leave.
use Rattle.std.proofs.Common.{◌≡◌, ◌≤◌, ℕ, List, inl, inr, length, map, pos, refl, subst, sym}
use Rattle.std.specs.Prelude.{All, Bool, option_to_list, Option, Some, None, Result, Ok, Err}
use Rattle.std.proofs.lemmas.List.Sums.{list_all-from_AllPass}
use Rattle.cube_core.specs.Layout.{Layout, number_of_dimensions}
use Rattle.cube_core.specs.Query.{AreRowsWhere, drill_fault}
use Rattle.cube_core.specs.Run.{SourceBytes}
use Rattle.cube_core.specs.Takes.{fits}
use Rattle.cube_core.specs.Text.{text_of_rows}
use Rattle.cube_core.specs.TextPlaces.{counted, text_number}
use Rattle.cube_core.specs.declared.aggregate.Agg.{Agg}
use Rattle.cube_core.specs.declared.change.Item.{Item}
use Rattle.cube_core.specs.declared.change.Refusal.{Refusal}
use Rattle.cube_core.specs.declared.fact.Fact.{Fact}
use Rattle.cube_core.specs.declared.key.Key.{Key}
use Rattle.cube_core.specs.declared.key.Row.{Row}
use Rattle.cube_core.specs.declared.query.QueryFault.{QueryFault}
use Rattle.cube_cells.specs.Rows.{GivesUnless, IsRowOver}
use Rattle.cube_build.specs.Build.{BuildsWhole}
use Rattle.cube_ledger.specs.Build.{ExplainsBuild}
use Rattle.cube_build.specs.Builder.{BuilderView}
use Rattle.cube_ledger.specs.Ledger.{AllFit, LedgerView, all_facts}
use Rattle.cube_ledger.specs.declared.fault.BuildFault.{BuildFault}
use Rattle.cube_ledger.specs.declared.fault.BuildFault.TheVariants as build_fault
use Rattle.cube_rings.specs.FeedingAll.{ExplainsFeeding}
use Rattle.cube_rings.specs.declared.fault.FeedingFault.{FeedingFault}
use Rattle.cube_rings.specs.declared.fault.FeedingFault.TheVariants as feeding_fault
use Rattle.cube_tool.specs.declared.fault.RunFault.TheVariants as run_fault
use Rattle.cube_build.specs.Parts.{BuiltView, BuildsParts, facts_of_run}
use Rattle.cube_live.specs.Shows.{IsTextWhere, is_key}
use Rattle.cube_live.proofs.RefusalLaws.{refusals_of_accounts}
use Rattle.cube_live.proofs.RowLaws.{AreRowsWhere-IsRowOver, AreRowsWhere-none}
use Rattle.cube_text.specs.Shape.{HasShapeOf}
use Rattle.cube_text.proofs.RowShapeLaws.{HasShapeOf-counted}
use Rattle.cube_tool.specs.Answering.{Answers, FailsOn, FailsOnTerms, IsFirstRefusal, IsToldOf, MayAnswer, MayAnswerOn}
use Rattle.cube_tool.specs.Answering.{Writes, question_fault, refusals_of_run}
use Rattle.cube_tool.specs.Faults.{fault_of_build, fault_of_feeding, fault_of_text}
use Rattle.cube_tool.specs.MaxCells.{RefusesCells}
use Rattle.cube_tool.specs.Run.{ExplainsPlainRun, ExplainsRun, IsTextOf, Leaves, LeavesOf, Tells}
use Rattle.cube_tool.specs.declared.fault.TextFault.{TextFault}
use Rattle.cube_tool.specs.declared.fault.TextFault.TheVariants as text_fault
use Rattle.cube_tool.specs.declared.question.Question.{Question}
use Rattle.cube_tool.specs.declared.command.failure.Failure.{Failure}
use Rattle.cube_tool.specs.declared.command.failure.Failure.TheVariants as failure
use Rattle.cube_tool.specs.declared.command.terms.Terms.{Terms}
use Rattle.cube_tool.proofs.RunLaws.{KeepsFeeds, OfFeeds-first, OfFeeds-first_refusal, OfFeeds-may, OfFeeds-too_many}
use Rattle.cube_tool.proofs.RunLaws.{OfFeeds-where_first, OfFeeds-whole_first}
use Rattle.cube_tool.proofs.RunLaws.{Wrote-weaker, WroteFirst-weaker}

-- ---- what writing a text comes to

-- a text of which less is said
pub Writes-weaker : {T : Type 0} {P Q : List ℕ → Type 0} (result : Result T TextFault) (old new : Option (List ℕ))
    → ((text : List ℕ) → P text → Q text)
    → Writes P result old new → Writes Q result old new
Writes-weaker (Ok value) old new to wrote = Wrote-weaker to wrote
Writes-weaker (Err text_fault.Full) old new to same = same
Writes-weaker (Err (text_fault.Write sent)) old new to wrote = WroteFirst-weaker to wrote

-- ---- what a fault of the build leaves

pub LeavesOf-feeding : (Has : List (List Item) → List ℕ → Type 0) (s : Layout) (sources : SourceBytes)
    (why : FeedingFault) (old new : Option (List ℕ)) → new ≡ old → ExplainsFeeding s sources why
    → LeavesOf (ExplainsRun s sources) Has s sources (fault_of_feeding why) old new
LeavesOf-feeding Has s sources feeding_fault.Memory old new same explains =
    (same, record { why = feeding_fault.Memory; is = refl; explains = explains })
LeavesOf-feeding Has s sources feeding_fault.NoThread old new same explains =
    (same, record { why = feeding_fault.NoThread; is = refl; explains = explains })
LeavesOf-feeding Has s sources (feeding_fault.Feed source fault) old new same explains =
    (same, record { why = feeding_fault.Feed source fault; is = refl; explains = explains })
LeavesOf-feeding Has s sources feeding_fault.Full old new same explains =
    (same, record { why = feeding_fault.Full; is = refl; explains = explains })
LeavesOf-feeding Has s sources (feeding_fault.Unsealed source) old new same explains =
    (same, record { why = feeding_fault.Unsealed source; is = refl; explains = explains })

pub Leaves-feeding : (question : Question) (s : Layout) (sources : SourceBytes) (why : FeedingFault)
    (old new : Option (List ℕ)) → new ≡ old → ExplainsFeeding s sources why
    → Leaves (ExplainsRun s sources) question s sources (fault_of_feeding why) old new
Leaves-feeding question s sources why old new same explains =
    LeavesOf-feeding (IsTextOf question s) s sources why old new same explains

pub Leaves-build : (question : Question) (s : Layout) (sources : SourceBytes) (why : BuildFault)
    (old new : Option (List ℕ))
    → new ≡ old → ExplainsBuild s sources why
    → Leaves (ExplainsPlainRun s sources) question s sources (fault_of_build why) old new
Leaves-build question s sources build_fault.Memory old new same explains =
    (same, record { why = build_fault.Memory; is = refl; explains = explains })
Leaves-build question s sources (build_fault.Feed source fault) old new same explains =
    (same, record { why = build_fault.Feed source fault; is = refl; explains = explains })
Leaves-build question s sources build_fault.Full old new same explains =
    (same, record { why = build_fault.Full; is = refl; explains = explains })

-- ---- what a fault of the text leaves

pub Leaves-text : (question : Question) {s : Layout} {sources : SourceBytes} {parts : ℕ} {built : BuiltView}
    (why : TextFault)
    (old new : Option (List ℕ)) → 1 ≤ length built.builders
    → BuildsParts s sources parts built
    → Writes {T = Unit {0}} (Tells question s (facts_of_run built) (refusals_of_run built)) (Err why) old new
    → Leaves (ExplainsRun s sources) question s sources (fault_of_text why) old new
Leaves-text question text_fault.Full old new some builds same =
    (same, record { why = feeding_fault.Full; is = refl; explains = builds.good })
Leaves-text question (text_fault.Write sent) old new some builds wrote = OfFeeds-first some builds wrote

pub Leaves-plain_text : (question : Question) {s : Layout} {sources : SourceBytes} {builder : BuilderView}
    (why : TextFault)
    (old new : Option (List ℕ))
    → BuildsWhole s sources builder → Writes {T = Unit {0}}
    (Tells question s (all_facts builder.ledger.accounts) (refusals_of_accounts builder.ledger.accounts))
    (Err why) old new
    → Leaves (ExplainsPlainRun s sources) question s sources (fault_of_text why) old new
Leaves-plain_text question text_fault.Full old new builds same =
    (same, record { why = build_fault.Full; is = refl; explains = tt })
Leaves-plain_text question (text_fault.Write sent) old new builds wrote = OfFeeds-whole_first builds wrote

-- ---- rows of the cube of some facts

-- these are the rows of a schema's cube of some facts whose keys pass a test
abbrev pub AreRowsTested : (Key → Bool) → Layout → List Fact → List Row → Type 0
AreRowsTested test s facts rows =
    AreRowsWhere test s.grouping_sets (number_of_dimensions s) s.aggregates (map (counted s) facts) rows

-- rows over a schema that is this one
rows-where : (test : Key → Bool) (t s : Layout) (facts : List Fact) (rows : List Row) → t ≡ s
    → AreRowsTested test t facts rows → AreRowsTested test s facts rows
rows-where test t s facts rows schema are = subst (λ (l : Layout). AreRowsTested test l facts rows) schema are

-- they have its shape
pub shapes : (test : Key → Bool) (t s : Layout) (facts : List Fact) (rows : List Row) → t ≡ s → AllFit t facts
    → AreRowsTested test t facts rows → All (HasShapeOf s) rows
shapes test t s facts rows schema fit are =
    HasShapeOf-counted test s (λ text. pos (text_number text)) facts rows
    (list_all-from_AllPass (fits s) facts (subst (λ (l : Layout). AllFit l facts) schema fit))
    (rows-where test t s facts rows schema are)

-- where their text is written, it is that of the rows that pass the test
pub Writes-rows : (result : Result (Unit {0}) TextFault) (old new : Option (List ℕ)) (test : Key → Bool) (t s : Layout)
    (facts : List Fact) (rows : List Row) → t ≡ s → AreRowsTested test t facts rows
    → Writes (λ text. text ≡ text_of_rows s rows) result old new → Writes (IsTextWhere test s facts) result old new
Writes-rows result old new test t s facts rows schema are writes =
    Writes-weaker result old new
    (λ text is. record { rows = rows; are_rows = rows-where test t s facts rows schema are; text_is = is }) writes

-- the row of a key, or none, is the list of its rows
pub AreRowsWhere-key : (sets : List ℕ) (dimensions : ℕ) (aggregates : List Agg) (facts : List Fact) (key : Key)
    (row : Option Row) → IsRowOver sets dimensions aggregates facts key row
    → AreRowsWhere (is_key key) sets dimensions aggregates facts (option_to_list row)
AreRowsWhere-key sets dimensions aggregates facts key (Some row) is =
    AreRowsWhere-IsRowOver sets dimensions aggregates facts key row is
AreRowsWhere-key sets dimensions aggregates facts key None none =
    AreRowsWhere-none sets dimensions aggregates facts key none

-- ---- answers

-- a question that isn't refused, and whose text wasn't written whole
pub Answers-text : (question : Question) (s : Layout) (facts : List Fact) (refusals : List (List Refusal))
    (why : TextFault) (old new : Option (List ℕ)) → question_fault s question ≡ None
    → Writes {T = Unit {0}} (Tells question s facts refusals) (Err why) old new
    → Answers {T = Unit {0}} question s facts refusals (Err (failure.Run (fault_of_text why))) old new
Answers-text question s facts refusals text_fault.Full old new lawful same = (same, lawful)
Answers-text question s facts refusals (text_fault.Write sent) old new lawful wrote = wrote

-- rows that are given hold, and there is nothing for which they would be refused
GivesUnless-Ok : {T : Type 0} (said : Option QueryFault) (Holds : T → Type 0) (value : T)
    → GivesUnless said Holds (Ok value) → (said ≡ None) × Holds value
GivesUnless-Ok None Holds value holds = (refl, holds)
GivesUnless-Ok (Some fault) Holds value told = let bad : Ok value ≡ Err fault = told in cc

-- the fault for which none are
GivesUnless-Err : {T : Type 0} (said : Option QueryFault) (Holds : T → Type 0) (fault : QueryFault)
    → GivesUnless said Holds (Err fault) → IsToldOf said fault
GivesUnless-Err None Holds fault memory = memory
GivesUnless-Err {T = T} (Some why) Holds fault told =
    let first : Result T QueryFault = Err fault in
    let second : Result T QueryFault = Err why in
    let same : first ≡ second = told in
    cc

-- what is asked of rows that drill down, where they are given: there is nothing for which they would be refused
pub drill-given : {T : Type 0} (Holds : T → Type 0) (dimension : ℕ) (key : Key) (given sets : List ℕ) (rows : T)
    → given ≡ sets → GivesUnless (drill_fault given dimension key) Holds (Ok rows)
    → (drill_fault sets dimension key ≡ None) × Holds rows
drill-given Holds dimension key given sets rows same gives =
    GivesUnless-Ok (drill_fault sets dimension key) Holds rows
    (subst (λ (those : List ℕ). GivesUnless (drill_fault those dimension key) Holds (Ok rows)) same gives)

-- where they aren't, the fault is that for which they would be refused
pub drill-refused : {T : Type 0} (Holds : T → Type 0) (dimension : ℕ) (key : Key) (given sets : List ℕ)
    (fault : QueryFault) → given ≡ sets → GivesUnless (drill_fault given dimension key) Holds (Err fault)
    → IsToldOf (drill_fault sets dimension key) fault
drill-refused Holds dimension key given sets fault same gives =
    GivesUnless-Err (drill_fault sets dimension key) Holds fault
    (subst (λ (those : List ℕ). GivesUnless (drill_fault those dimension key) Holds (Err fault)) same gives)

-- ---- what a failure of a question on terms leaves

-- feeds that weren't taken
pub FailsOnTerms-feeding : (terms : Terms) (question : Question) (s : Layout) (sources : SourceBytes)
    (why : FeedingFault) (old new : Option (List ℕ)) → new ≡ old → ExplainsFeeding s sources why
    → FailsOnTerms terms question s sources (failure.Run (fault_of_feeding why)) old new
FailsOnTerms-feeding terms question s sources feeding_fault.Memory old new same explains =
    (same, record { why = feeding_fault.Memory; is = refl; explains = explains })
FailsOnTerms-feeding terms question s sources feeding_fault.NoThread old new same explains =
    (same, record { why = feeding_fault.NoThread; is = refl; explains = explains })
FailsOnTerms-feeding terms question s sources (feeding_fault.Feed source fault) old new same explains =
    (same, record { why = feeding_fault.Feed source fault; is = refl; explains = explains })
FailsOnTerms-feeding terms question s sources feeding_fault.Full old new same explains =
    (same, record { why = feeding_fault.Full; is = refl; explains = explains })
FailsOnTerms-feeding terms question s sources (feeding_fault.Unsealed source) old new same explains =
    (same, record { why = feeding_fault.Unsealed source; is = refl; explains = explains })

-- the first refusal is told
pub FailsOn-first : (terms : Terms) (question : Question) (s : Layout) (facts : List Fact)
    (refusals : List (List Refusal)) (why : Failure) (old new : Option (List ℕ)) → new ≡ old
    → IsFirstRefusal terms.is_strict refusals why → FailsOn terms question s facts refusals why old new
FailsOn-first terms question s facts refusals (failure.LineRefused source number code) old new same is =
    (same, is.0, is.1)
FailsOn-first terms question s facts refusals (failure.Query fault) old new same is = absurd is
FailsOn-first terms question s facts refusals (failure.Run fault) old new same is = absurd is
FailsOn-first terms question s facts refusals failure.Unreadable old new same is = absurd is
FailsOn-first terms question s facts refusals (failure.Schema fault) old new same is = absurd is
FailsOn-first terms question s facts refusals failure.TooManyFeeds old new same is = absurd is
FailsOn-first terms question s facts refusals failure.InputTaken old new same is = absurd is
FailsOn-first terms question s facts refusals failure.NoRandomKey old new same is = absurd is
FailsOn-first terms question s facts refusals (failure.FeedUnreadable source) old new same is = absurd is
FailsOn-first terms question s facts refusals failure.UnknownCode old new same is = absurd is
FailsOn-first terms question s facts refusals (failure.Session fault) old new same is = absurd is
FailsOn-first terms question s facts refusals failure.TooManyCubes old new same is = absurd is
FailsOn-first terms question s facts refusals (failure.SamePath input) old new same is = absurd is
FailsOn-first terms question s facts refusals (failure.Merge fault) old new same is = absurd is
FailsOn-first terms question s facts refusals failure.TooManyCells old new same is = absurd is

-- there are more cells than there may be, or memory ran out for their count
pub FailsOn-cells : (terms : Terms) (question : Question) (s : Layout) (facts : List Fact)
    (refusals : List (List Refusal)) (why : Failure) (old new : Option (List ℕ)) → new ≡ old
    → MayAnswer terms.is_strict refusals → RefusesCells terms.max_cells s facts why
    → FailsOn terms question s facts refusals why old new
FailsOn-cells terms question s facts refusals why old new same may (inl beyond) =
    subst (λ (f : Failure). FailsOn terms question s facts refusals f old new) (sym beyond.0) (same, may, beyond.1)
FailsOn-cells terms question s facts refusals why old new same may (inr full) =
    subst (λ (f : Failure). FailsOn terms question s facts refusals f old new) (sym full) same

-- the answer failed
pub FailsOn-Answers : (terms : Terms) (question : Question) (s : Layout) (facts : List Fact)
    (refusals : List (List Refusal)) (why : Failure) (old new : Option (List ℕ))
    → MayAnswerOn terms s facts refusals
    → Answers {T = Unit {0}} question s facts refusals (Err why) old new
    → FailsOn terms question s facts refusals why old new
FailsOn-Answers terms question s facts refusals (failure.Query fault) old new may answers =
    (answers.0, answers.1, may)
FailsOn-Answers terms question s facts refusals (failure.Run run_fault.Full) old new may answers = answers.0
FailsOn-Answers terms question s facts refusals (failure.Run (run_fault.Write sent)) old new may answers =
    (answers, may)
FailsOn-Answers terms question s facts refusals (failure.Run run_fault.Memory) old new may answers = absurd answers
FailsOn-Answers terms question s facts refusals (failure.Run run_fault.NoThread) old new may answers =
    absurd answers
FailsOn-Answers terms question s facts refusals (failure.Run (run_fault.Feed source fault)) old new may answers =
    absurd answers
FailsOn-Answers terms question s facts refusals (failure.Run (run_fault.Unsealed source)) old new may answers =
    absurd answers
FailsOn-Answers terms question s facts refusals (failure.LineRefused source number code) old new may answers =
    absurd answers
FailsOn-Answers terms question s facts refusals failure.Unreadable old new may answers = absurd answers
FailsOn-Answers terms question s facts refusals (failure.Schema fault) old new may answers = absurd answers
FailsOn-Answers terms question s facts refusals failure.TooManyFeeds old new may answers = absurd answers
FailsOn-Answers terms question s facts refusals failure.InputTaken old new may answers = absurd answers
FailsOn-Answers terms question s facts refusals failure.NoRandomKey old new may answers = absurd answers
FailsOn-Answers terms question s facts refusals (failure.FeedUnreadable source) old new may answers = absurd answers
FailsOn-Answers terms question s facts refusals failure.UnknownCode old new may answers = absurd answers
FailsOn-Answers terms question s facts refusals (failure.Session fault) old new may answers = absurd answers
FailsOn-Answers terms question s facts refusals failure.TooManyCubes old new may answers = absurd answers
FailsOn-Answers terms question s facts refusals (failure.SamePath input) old new may answers = absurd answers
FailsOn-Answers terms question s facts refusals (failure.Merge fault) old new may answers = absurd answers
FailsOn-Answers terms question s facts refusals failure.TooManyCells old new may answers = absurd answers

-- what it leaves over feeds
pub FailsOnTerms-kept : {s : Layout} {sources : SourceBytes} {ledger : LedgerView} (terms : Terms)
    (question : Question) (why : Failure) (old new : Option (List ℕ))
    → KeepsFeeds s terms.conditions.items sources ledger
    → FailsOn terms question s (all_facts ledger.accounts) (refusals_of_accounts ledger.accounts) why old new
    → FailsOnTerms terms question s sources why old new
FailsOnTerms-kept terms question (failure.LineRefused source number code) old new of fails =
    (fails.0, fails.1, OfFeeds-first_refusal terms of _ fails.2)
FailsOnTerms-kept terms question failure.TooManyCells old new of fails =
    (fails.0, OfFeeds-too_many terms of fails.1 fails.2)
FailsOnTerms-kept terms question (failure.Query fault) old new of fails =
    (fails.0, fails.1, OfFeeds-may terms of fails.2)
FailsOnTerms-kept terms question (failure.Run run_fault.Full) old new of fails =
    (fails, record { why = feeding_fault.Full; is = refl; explains = of.good })
FailsOnTerms-kept terms question (failure.Run (run_fault.Write sent)) old new of fails =
    OfFeeds-where_first terms of fails.0 fails.1
FailsOnTerms-kept terms question (failure.Run run_fault.Memory) old new of fails = absurd fails
FailsOnTerms-kept terms question (failure.Run run_fault.NoThread) old new of fails = absurd fails
FailsOnTerms-kept terms question (failure.Run (run_fault.Feed source fault)) old new of fails = absurd fails
FailsOnTerms-kept terms question (failure.Run (run_fault.Unsealed source)) old new of fails = absurd fails
FailsOnTerms-kept terms question failure.Unreadable old new of fails = absurd fails
FailsOnTerms-kept terms question (failure.Schema fault) old new of fails = absurd fails
FailsOnTerms-kept terms question failure.TooManyFeeds old new of fails = absurd fails
FailsOnTerms-kept terms question failure.InputTaken old new of fails = absurd fails
FailsOnTerms-kept terms question failure.NoRandomKey old new of fails = absurd fails
FailsOnTerms-kept terms question (failure.FeedUnreadable source) old new of fails = absurd fails
FailsOnTerms-kept terms question failure.UnknownCode old new of fails = absurd fails
FailsOnTerms-kept terms question (failure.Session fault) old new of fails = absurd fails
FailsOnTerms-kept terms question failure.TooManyCubes old new of fails = absurd fails
FailsOnTerms-kept terms question (failure.SamePath input) old new of fails = absurd fails
FailsOnTerms-kept terms question (failure.Merge fault) old new of fails = absurd fails
