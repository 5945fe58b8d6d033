-- What a question over feeds and a store writes and leaves, from where the feeds and the store were taken.
use Rattle.std.proofs.Common.{◌≡◌, ◌≢◌, inl, inr, ℕ, List, [], ◌++◌, take, refl, sym, ap, ◌∙◌, subst, arith}
use Rattle.std.specs.Prelude.{Option, Some, None}
use Rattle.std.proofs.lemmas.List.{append-nil, take_all}
use Rattle.sqlite_trees.specs.Tree.{Trees}
use Rattle.sqlite_trees.specs.View.{View, IsClean}
use Rattle.cube_core.specs.Arrival.{Arrivals, of_sources}
use Rattle.cube_core.specs.Conditions.{of_interest}
use Rattle.cube_core.specs.Layout.{Layout}
use Rattle.cube_core.specs.Query.{drill_fault}
use Rattle.cube_core.specs.Run.{SourceBytes}
use Rattle.cube_core.specs.declared.fact.Fact.{Fact}
use Rattle.cube_core.specs.declared.change.Refusal.{Refusal}
use Rattle.cube_core.specs.declared.query.QueryFault.{QueryFault}
use Rattle.cube_core.specs.declared.query.QueryFault.TheVariants.{Memory}
use Rattle.cube_ledger.specs.Ledger.{LedgerView, all_facts, refusal}
use Rattle.cube_rings.specs.FeedingAll.{ExplainsFeeding}
use Rattle.cube_rings.specs.declared.fault.FeedingFault.{FeedingFault}
use Rattle.cube_rings.specs.declared.fault.FeedingFault.TheVariants as feeding_fault
use Rattle.cube_store.specs.Rows.{Entry}
use Rattle.cube_store.specs.State.{Holds, LeadsTo, held_in, noted_in, stored_in, form_in, stored_form}
use Rattle.cube_live.proofs.RefusalLaws.{refusals_of_accounts}
use Rattle.cube_live.specs.Live.{IsLive, LiveStandsAt, LiveView}
use Rattle.cube_live.specs.Opening.{OpensOver}
use Rattle.cube_store.specs.Keeping.{Batch, HasKept}
use Rattle.cube_store_commands.specs.Replay.{PassesLast, TakesStored, arrivals_from}
use Rattle.cube_store.specs.Codes.{TellsFailedCall}
use Rattle.cube_store.specs.declared.store_fault.StoreFault.{StoreFault}
use Rattle.cube_store_commands.specs.Serving.{ExplainsResume, IfUntaken, stored_fault_of}
use Rattle.cube_store_commands.specs.declared.session.ResumeFault.{ResumeFault}
use Rattle.cube_store_commands.specs.declared.session.ResumeFault.TheVariants as resume
use Rattle.cube_store_commands.specs.Stored.{FailsUnwritten, IfStoreRefused, LeavesUnwritten, failure_of}
use Rattle.cube_store_commands.proofs.ReplayLaws.{LeadsTo-schema, LeadsTo-stands}
use Rattle.cube_tool.proofs.RunLaws.{Done-MayAnswer, HasTooManyCells-stands, IsTextOn-Tells, MayAnswerOver-stands}
use Rattle.cube_tool.proofs.RunLaws.{StandsUnder, Wrote-weaker, WroteFirst-weaker, refused-under}
use Rattle.cube_tool.proofs.SessionLaws.{AreWithin-live}
use Rattle.cube_tool.specs.Answering.{AnswersOn, FailsOn, Fits, HasTooManyCells, IsQueryFault, IsToldOf, MayAnswerOver}
use Rattle.cube_tool.specs.Answering.{first_refusal, question_fault}
use Rattle.cube_tool.specs.Command.{status_after}
use Rattle.cube_tool.specs.Faults.{fault_of_feeding}
use Rattle.cube_tool.specs.Run.{OfFeeds, WroteFirst}
use Rattle.cube_tool.specs.declared.command.failure.Failure.{Failure}
use Rattle.cube_tool.specs.declared.command.failure.Failure.TheVariants.{Unreadable, Schema, TooManyFeeds, InputTaken}
use Rattle.cube_tool.specs.declared.command.failure.Failure.TheVariants.{NoRandomKey, FeedUnreadable, Query}
use Rattle.cube_tool.specs.declared.command.failure.Failure.TheVariants.{UnknownCode, Run, Session, TooManyCubes}
use Rattle.cube_tool.specs.declared.command.failure.Failure.TheVariants.{SamePath, Merge, LineRefused, TooManyCells}
use Rattle.cube_tool.specs.declared.command.status.Status.{Status}
use Rattle.cube_tool.specs.declared.command.terms.Terms.{Terms}
use Rattle.cube_tool.specs.declared.fault.RunFault.TheVariants as run_fault
use Rattle.cube_tool.specs.declared.question.Question.{Question}
use Rattle.cube_tool.specs.declared.question.Question.TheVariants.{Cube, Slice, Drill, RollUp, Refusals}
use Rattle.cube_store_commands.specs.Asking.{AfterStored, AnsweredAt, AnswersStored, FailsAt, IsTextAt, IsToldAs}
use Rattle.cube_store_commands.specs.Asking.{LeavesOfText, refusals_at}
use Rattle.cube_store_commands.specs.declared.failure.StoredFailure.TheVariants as stored

-- ---- the question

-- the ledger of a cube that is kept right stands under its schema and the 64 sources
under : (cube : LiveView) (arrivals : Arrivals) → IsLive cube.schema cube.ledger cube.numbers
    → LiveStandsAt cube arrivals → StandsUnder cube.schema 64 arrivals cube.ledger
under cube arrivals is stands = record { schema = is.schema; all = is.sources; stands = stands.ledger }

-- what was answered over its ledger was answered at the arrival list
pub AnsweredAt-ledger : (terms : Terms) (question : Question) (cube : LiveView) (status : Status)
    (old new : Option (List ℕ)) → IsLive cube.schema cube.ledger cube.numbers
    → AnswersOn terms question cube.schema
    (of_interest terms.conditions.items (all_facts cube.ledger.accounts)) (refusals_of_accounts cube.ledger.accounts)
    status old new
    → (arrivals : Arrivals) → LiveStandsAt cube arrivals
    → AnsweredAt terms question cube.schema arrivals status old new
AnsweredAt-ledger terms question cube status old new is answers arrivals stands =
    let stood = under cube arrivals is stands in
    record {
      wrote = Wrote-weaker (λ text. IsTextOn-Tells terms.conditions.items question text stood) answers.wrote;
      asked = answers.asked;
      within = AreWithin-live arrivals is stands.numbers;
      status_is = answers.status_is ∙ ap status_after (refused-under stood);
      strict = Done-MayAnswer (refusals_of_accounts cube.ledger.accounts) answers.status_is answers.may.0;
      may = MayAnswerOver-stands terms stood answers.may;
    }

-- what is told of a question that may be refused, where memory isn't, is why it is
said-told : (said : Option QueryFault) (fault : QueryFault) → Query fault ≢ Query Memory → IsToldOf said fault
    → said ≡ Some fault
said-told (Some why) fault other told = ap (λ (f : QueryFault). Some f) (sym told)
said-told None fault other told = absurd (other (ap (λ (f : QueryFault). Query f) told))

said-of : (s : Layout) (question : Question) (fault : QueryFault) → Query fault ≢ Query Memory
    → IsQueryFault s question fault → question_fault s question ≡ Some fault
said-of s Cube fault other is = absurd is
said-of s (Slice pattern) fault other is = absurd is
said-of s (Drill key dimension) fault other is =
    said-told (drill_fault s.grouping_sets dimension key) fault other is
said-of s (RollUp key dimension) fault other is = absurd is
said-of s Refusals fault other is = absurd is

-- what a failure over its ledger leaves
FailsAt-ledger : (terms : Terms) (question : Question) (s : Layout) (arrivals : Arrivals) (ledger : LedgerView)
    (failure : Failure) (old new : Option (List ℕ)) → StandsUnder s 64 arrivals ledger → failure ≢ Query Memory
    → FailsOn terms question s (of_interest terms.conditions.items (all_facts ledger.accounts))
    (refusals_of_accounts ledger.accounts) failure old new
    → FailsAt terms question s arrivals failure old new
FailsAt-ledger terms question s arrivals ledger (LineRefused source number code) old new stood other fails =
    (fails.0, fails.1, ap (first_refusal 1) (sym (refused-under stood)) ∙ fails.2)
FailsAt-ledger terms question s arrivals ledger TooManyCells old new stood other fails =
    (fails.0, HasTooManyCells-stands terms stood fails.1 fails.2)
FailsAt-ledger terms question s arrivals ledger (Query fault) old new stood other fails =
    (fails.0, said-of s question fault other fails.1, MayAnswerOver-stands terms stood fails.2)
FailsAt-ledger terms question s arrivals ledger (Run run_fault.Full) old new stood other fails = fails
FailsAt-ledger terms question s arrivals ledger (Run (run_fault.Write sent)) old new stood other fails = (
  WroteFirst-weaker (λ text. IsTextOn-Tells terms.conditions.items question text stood) fails.0,
  MayAnswerOver-stands terms stood fails.1,
)
FailsAt-ledger terms question s arrivals ledger (Run run_fault.Memory) old new stood other fails = absurd fails
FailsAt-ledger terms question s arrivals ledger (Run run_fault.NoThread) old new stood other fails = absurd fails
FailsAt-ledger terms question s arrivals ledger (Run (run_fault.Feed source fault)) old new stood other fails =
    absurd fails
FailsAt-ledger terms question s arrivals ledger (Run (run_fault.Unsealed source)) old new stood other fails =
    absurd fails
FailsAt-ledger terms question s arrivals ledger Unreadable old new stood other fails = absurd fails
FailsAt-ledger terms question s arrivals ledger (Schema fault) old new stood other fails = absurd fails
FailsAt-ledger terms question s arrivals ledger TooManyFeeds old new stood other fails = absurd fails
FailsAt-ledger terms question s arrivals ledger InputTaken old new stood other fails = absurd fails
FailsAt-ledger terms question s arrivals ledger NoRandomKey old new stood other fails = absurd fails
FailsAt-ledger terms question s arrivals ledger (FeedUnreadable source) old new stood other fails = absurd fails
FailsAt-ledger terms question s arrivals ledger UnknownCode old new stood other fails = absurd fails
FailsAt-ledger terms question s arrivals ledger (Session fault) old new stood other fails = absurd fails
FailsAt-ledger terms question s arrivals ledger TooManyCubes old new stood other fails = absurd fails
FailsAt-ledger terms question s arrivals ledger (SamePath input) old new stood other fails = absurd fails
FailsAt-ledger terms question s arrivals ledger (Merge fault) old new stood other fails = absurd fails

-- and as it is told
pub FailsAt-told : (terms : Terms) (question : Question) (cube : LiveView) (failure told : Failure)
    (old new : Option (List ℕ)) → IsLive cube.schema cube.ledger cube.numbers → IsToldAs failure told
    → FailsOn terms question cube.schema
    (of_interest terms.conditions.items (all_facts cube.ledger.accounts)) (refusals_of_accounts cube.ledger.accounts)
    failure old new
    → (arrivals : Arrivals) → LiveStandsAt cube arrivals
    → FailsAt terms question cube.schema arrivals told old new
FailsAt-told terms question cube failure told old new is (inl memory) fails arrivals stands =
    let forgone = subst (λ (f : Failure). FailsOn terms question cube.schema
    (of_interest terms.conditions.items (all_facts cube.ledger.accounts)) (refusals_of_accounts cube.ledger.accounts)
    f old new) memory.0 fails in
    subst (λ (f : Failure). FailsAt terms question cube.schema arrivals f old new) (sym memory.1) forgone.0
FailsAt-told terms question cube failure told old new is (inr same) fails arrivals stands =
    subst (λ (f : Failure). FailsAt terms question cube.schema arrivals f old new) (sym same.1)
    (FailsAt-ledger terms question cube.schema arrivals cube.ledger failure old new (under cube arrivals is stands)
    same.0 fails)

-- ---- what the store has

module _ {S : Type 0} (view : S → View) (recovers : S → Trees → Type 0) (was : View) (notes : List Entry)
    (begun : Batch S) (fresh : HasKept view recovers begun begun [] 0)
    (stored : IsClean (view begun.store) → stored_in (view begun.store) ≡ stored_in was)
    (noted : IsClean (view begun.store) → noted_in (view begun.store) ≡ notes)
    (formed : IsClean (view begun.store) → form_in (view begun.store) ≡ stored_form was) where
  -- a journal that was told of nothing has the changes that were stored
  pub held-same : IsClean (view begun.store) → held_in (view begun.store) ≡ stored_in was
  held-same clean = (fresh.stands clean).held ∙ append-nil (stored_in (view begun.store)) ∙ stored clean

  -- and its store leaves them
  pub leaves-same : IsClean (view begun.store) → (db : Trees) → recovers begun.store db
      → Holds (stored_form was) db (stored_in was) notes
  leaves-same clean db may =
      let part = (fresh.stands clean).leaves db may in
      let none : List Entry = [] in
      let same : stored_in (view begun.store) ++ take part.count none ≡ stored_in was =
      ap (λ (es : List Entry). stored_in (view begun.store) ++ es) (take_all part.count none (omega arith))
      ∙ append-nil (stored_in (view begun.store)) ∙ stored clean in
      subst (λ (es : List Entry). Holds (stored_form was) db es notes) same
      (subst (λ (ns : List Entry). Holds (stored_form was) db (stored_in (view begun.store) ++ take part.count none) ns)
      (noted clean)
      (subst (λ form. Holds form db (stored_in (view begun.store) ++ take part.count none) (noted_in (view begun.store)))
      (formed clean) part.holds))

-- ---- what was written

-- a store that wasn't taken leaves nothing written
pub LeavesOfText-refused : (terms : Terms) (question : Question) (s : Layout) (sources : SourceBytes) (was : View)
    (live : LiveView)
    (opens : OpensOver s sources (LiveStandsAt live)) → live.schema ≡ s → (taken : Type 0) (fault : ResumeFault)
    (old : Option (List ℕ)) → ExplainsResume live was taken fault
    → LeavesOfText terms question s sources was (failure_of (stored_fault_of fault)) old old
LeavesOfText-refused terms question s sources was live opens schema taken (resume.Store fault) old explains = refl
LeavesOfText-refused terms question s sources was live opens schema taken (resume.TooMany source) old explains =
    record {
      feeds = opens.feeds;
      good = opens.good;
      items = opens.items;
      holds = (
        refl,
        record {
          start = opens.start;
          starts = opens.starts;
          passes = subst (λ (l : Layout). PassesLast l opens.start (stored_in was) source) schema
              (explains opens.start opens.stands);
        },
      );
    }

-- feeds that weren't taken leave nothing written
pub LeavesOfText-unopened : (terms : Terms) (question : Question) (s : Layout) (sources : SourceBytes) (was : View)
    (why : FeedingFault)
    (old : Option (List ℕ))
    → ExplainsFeeding s sources why
    → LeavesOfText terms question s sources was (stored.Failure (Run (fault_of_feeding why))) old old
LeavesOfText-unopened terms question s sources was feeding_fault.Memory old explains =
    (refl, record { why = feeding_fault.Memory; is = refl; explains = explains })
LeavesOfText-unopened terms question s sources was feeding_fault.NoThread old explains =
    (refl, record { why = feeding_fault.NoThread; is = refl; explains = explains })
LeavesOfText-unopened terms question s sources was (feeding_fault.Feed source fault) old explains =
    (refl, record { why = feeding_fault.Feed source fault; is = refl; explains = explains })
LeavesOfText-unopened terms question s sources was feeding_fault.Full old explains =
    (refl, record { why = feeding_fault.Full; is = refl; explains = explains })
LeavesOfText-unopened terms question s sources was (feeding_fault.Unsealed source) old explains =
    (refl, record { why = feeding_fault.Unsealed source; is = refl; explains = explains })

module _ (s : Layout) (sources : SourceBytes) (was : View) (before after : LiveView)
    (opens : OpensOver s sources (LiveStandsAt before)) (schema : before.schema ≡ s)
    (taken : LeadsTo TakesStored before (stored_in was) after) where
  -- where the stored changes come after the feeds
  abbrev there : Arrivals
  there = arrivals_from s opens.start (stored_in was)

  stands : LiveStandsAt after there
  stands = subst (λ (l : Layout). LiveStandsAt after (arrivals_from l opens.start (stored_in was))) schema
      (LeadsTo-stands before after (stored_in was) taken opens.start opens.stands)

  same : after.schema ≡ s
  same = LeadsTo-schema before after (stored_in was) taken ∙ schema

  after-feeds : (Stands : Arrivals → Type 0) → Stands there
      → OfFeeds s sources (λ feeds. AfterStored s feeds was Stands)
  after-feeds Stands holds = record {
    feeds = opens.feeds;
    good = opens.good;
    items = opens.items;
    holds = record { start = opens.start; starts = opens.starts; holds = holds };
  }

  pub OfFeeds-answered : (terms : Terms) (question : Question) (notes : List Entry) (status : Status) (now : View)
      (Leaves : Trees → Type 0) (old new : Option (List ℕ))
      → ((arrivals : Arrivals) → LiveStandsAt after arrivals
      → AnsweredAt terms question after.schema arrivals status old new)
      → held_in now ≡ stored_in was → ((db : Trees) → Leaves db → Holds (stored_form was) db (stored_in was) notes)
      → OfFeeds s sources (λ feeds. AnswersStored terms question s feeds was notes status now Leaves old new)
  OfFeeds-answered terms question notes status now Leaves old new answered held leaves =
      let over = after-feeds (λ arrivals. AnsweredAt terms question s arrivals status old new)
      (subst (λ (l : Layout). AnsweredAt terms question l there status old new) same (answered there stands)) in
      record {
        feeds = over.feeds;
        good = over.good;
        items = over.items;
        holds = record { answered = over.holds; held = held; leaves = leaves };
      }

  -- what a failure of the question leaves, by which it is
  leaves-of : (terms : Terms) (question : Question) (failure : Failure) (old new : Option (List ℕ))
      → FailsAt terms question s there failure old new
      → LeavesOfText terms question s sources was (stored.Failure failure) old new
  leaves-of terms question Unreadable old new fails = absurd fails
  leaves-of terms question (Schema fault) old new fails = absurd fails
  leaves-of terms question TooManyFeeds old new fails = absurd fails
  leaves-of terms question InputTaken old new fails = absurd fails
  leaves-of terms question NoRandomKey old new fails = absurd fails
  leaves-of terms question (FeedUnreadable source) old new fails = absurd fails
  leaves-of terms question (Query fault) old new fails =
      (fails.0, fails.1, after-feeds (λ arrivals. MayAnswerOver terms s (of_sources 64 arrivals)) fails.2)
  leaves-of terms question UnknownCode old new fails = absurd fails
  leaves-of terms question (Run run_fault.Memory) old new fails = absurd fails
  leaves-of terms question (Run run_fault.NoThread) old new fails = absurd fails
  leaves-of terms question (Run (run_fault.Feed source fault)) old new fails = absurd fails
  leaves-of terms question (Run run_fault.Full) old new fails =
      (fails, record { why = feeding_fault.Full; is = refl; explains = opens.good })
  leaves-of terms question (Run (run_fault.Unsealed source)) old new fails = absurd fails
  leaves-of terms question (Run (run_fault.Write sent)) old new fails =
      after-feeds (λ arrivals. WroteFirst (IsTextAt terms question s arrivals) sent old new
      × MayAnswerOver terms s (of_sources 64 arrivals)) fails
  leaves-of terms question TooManyCells old new fails =
      (fails.0, after-feeds (λ arrivals. HasTooManyCells terms s (of_sources 64 arrivals)) fails.1)
  leaves-of terms question (LineRefused source number code) old new fails = (
    fails.0,
    fails.1,
    after-feeds
        (λ arrivals. first_refusal 1 (refusals_at s arrivals) ≡ Some (source, refusal number code)) fails.2,
  )
  leaves-of terms question (Session fault) old new fails = absurd fails
  leaves-of terms question TooManyCubes old new fails = absurd fails
  leaves-of terms question (SamePath input) old new fails = absurd fails
  leaves-of terms question (Merge fault) old new fails = absurd fails

  pub LeavesOfText-failed : (terms : Terms) (question : Question) (failure : Failure) (old new : Option (List ℕ))
      → Fits s question
      → ((arrivals : Arrivals) → LiveStandsAt after arrivals → Fits after.schema question
      → FailsAt terms question after.schema arrivals failure old new)
      → LeavesOfText terms question s sources was (stored.Failure failure) old new
  LeavesOfText-failed terms question failure old new fits fails =
      leaves-of terms question failure old new
      (subst (λ (l : Layout). FailsAt terms question l there failure old new) same
      (fails there stands (subst (λ (l : Layout). Fits l question) (sym same) fits)))

-- ---- what was written, whatever the disk did

-- nothing where the feeds weren't taken
pub FailsUnwritten-unopened : (why : FeedingFault) (old : Option (List ℕ))
    → FailsUnwritten (Run (fault_of_feeding why)) old old
FailsUnwritten-unopened feeding_fault.Memory old = refl
FailsUnwritten-unopened feeding_fault.NoThread old = refl
FailsUnwritten-unopened (feeding_fault.Feed source fault) old = refl
FailsUnwritten-unopened feeding_fault.Full old = refl
FailsUnwritten-unopened (feeding_fault.Unsealed source) old = refl

-- nor where the store wasn't
pub LeavesUnwritten-refused : (fault : ResumeFault) (old : Option (List ℕ))
    → LeavesUnwritten (failure_of (stored_fault_of fault)) old old
LeavesUnwritten-refused (resume.Store fault) old = refl
LeavesUnwritten-refused (resume.TooMany source) old = refl

-- nor where the question wasn't answered, but by a failed write
FailsUnwritten-fails : (terms : Terms) (question : Question) (s : Layout) (facts : List Fact)
    (refusals : List (List Refusal)) (failure : Failure) (old new : Option (List ℕ))
    → FailsOn terms question s facts refusals failure old new → FailsUnwritten failure old new
FailsUnwritten-fails terms question s facts refusals (LineRefused source number code) old new fails = fails.0
FailsUnwritten-fails terms question s facts refusals TooManyCells old new fails = fails.0
FailsUnwritten-fails terms question s facts refusals (Query fault) old new fails = fails.0
FailsUnwritten-fails terms question s facts refusals (Run run_fault.Full) old new fails = fails
FailsUnwritten-fails terms question s facts refusals (Run (run_fault.Write sent)) old new fails = tt
FailsUnwritten-fails terms question s facts refusals (Run run_fault.Memory) old new fails = absurd fails
FailsUnwritten-fails terms question s facts refusals (Run run_fault.NoThread) old new fails = absurd fails
FailsUnwritten-fails terms question s facts refusals (Run (run_fault.Feed source fault)) old new fails =
    absurd fails
FailsUnwritten-fails terms question s facts refusals (Run (run_fault.Unsealed source)) old new fails =
    absurd fails
FailsUnwritten-fails terms question s facts refusals Unreadable old new fails = absurd fails
FailsUnwritten-fails terms question s facts refusals (Schema fault) old new fails = absurd fails
FailsUnwritten-fails terms question s facts refusals TooManyFeeds old new fails = absurd fails
FailsUnwritten-fails terms question s facts refusals InputTaken old new fails = absurd fails
FailsUnwritten-fails terms question s facts refusals NoRandomKey old new fails = absurd fails
FailsUnwritten-fails terms question s facts refusals (FeedUnreadable source) old new fails = absurd fails
FailsUnwritten-fails terms question s facts refusals UnknownCode old new fails = absurd fails
FailsUnwritten-fails terms question s facts refusals (Session fault) old new fails = absurd fails
FailsUnwritten-fails terms question s facts refusals TooManyCubes old new fails = absurd fails
FailsUnwritten-fails terms question s facts refusals (SamePath input) old new fails = absurd fails
FailsUnwritten-fails terms question s facts refusals (Merge fault) old new fails = absurd fails

pub FailsUnwritten-told : (terms : Terms) (question : Question) (cube : LiveView) (failure told : Failure)
    (old new : Option (List ℕ)) → IsToldAs failure told
    → FailsOn terms question cube.schema
    (of_interest terms.conditions.items (all_facts cube.ledger.accounts)) (refusals_of_accounts cube.ledger.accounts)
    failure old new
    → FailsUnwritten told old new
FailsUnwritten-told terms question cube failure told old new (inl memory) fails =
    let forgone = subst (λ (f : Failure). FailsOn terms question cube.schema
    (of_interest terms.conditions.items (all_facts cube.ledger.accounts)) (refusals_of_accounts cube.ledger.accounts)
    f old new) memory.0 fails in
    subst (λ (f : Failure). FailsUnwritten f old new) (sym memory.1) forgone.0
FailsUnwritten-told terms question cube failure told old new (inr same) fails =
    subst (λ (f : Failure). FailsUnwritten f old new) (sym same.1)
    (FailsUnwritten-fails terms question cube.schema
    (of_interest terms.conditions.items (all_facts cube.ledger.accounts)) (refusals_of_accounts cube.ledger.accounts)
    failure old new fails)

-- ---- what is told of a store that wasn't taken

pub IfStoreRefused-untaken : (holds : StoreFault → Type 0) (fault : ResumeFault) → IfUntaken holds fault
    → IfStoreRefused holds (failure_of (stored_fault_of fault))
IfStoreRefused-untaken holds (resume.Store fault) is = is
IfStoreRefused-untaken holds (resume.TooMany source) is = tt

pub IfStoreRefused-explains : (live : LiveView) (was : View) (taken : Type 0) (fault : ResumeFault)
    → ExplainsResume live was taken fault → taken
    → IfStoreRefused TellsFailedCall (failure_of (stored_fault_of fault))
IfStoreRefused-explains live was taken (resume.Store fault) explains may = explains may
IfStoreRefused-explains live was taken (resume.TooMany source) explains may = tt
