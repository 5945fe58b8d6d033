-- What a session over feeds and a store writes and leaves, from where it was opened.
use Rattle.std.proofs.Common.{◌≡◌, ℕ, List, length, take, refl, ap, ◌∙◌, subst, arith}
use Rattle.std.specs.Prelude.{Option, Some, None, IfSome}
use Rattle.std.proofs.lemmas.List.{take_all}
use Rattle.sqlite_trees.specs.Tree.{Trees}
use Rattle.sqlite_trees.specs.View.{View}
use Rattle.cube_core.specs.Arrival.{Arrivals}
use Rattle.cube_core.specs.Layout.{Layout}
use Rattle.cube_core.specs.Run.{SourceBytes}
use Rattle.cube_store.specs.Rows.{Entry}
use Rattle.cube_store.specs.State.{stored_in}
use Rattle.cube_live.proofs.RefusalLaws.{refusals_of_accounts}
use Rattle.cube_live.specs.Live.{IsLive, LiveStandsAt, LiveView}
use Rattle.cube_live.specs.Opening.{OpensOver}
use Rattle.cube_live.specs.Session.{AreReplies, arrivals_after}
use Rattle.cube_live.specs.declared.session.SessionFault.{SessionFault}
use Rattle.cube_store_commands.specs.Replay.{PassesLast, arrivals_from}
use Rattle.cube_rings.specs.declared.fault.FeedingFault.{FeedingFault}
use Rattle.cube_rings.specs.declared.fault.FeedingFault.TheVariants as feeding_fault
use Rattle.cube_store.specs.declared.store_fault.StoreFault.{StoreFault}
use Rattle.cube_tool.specs.Faults.{fault_of_feeding}
use Rattle.cube_tool.specs.declared.command.failure.Failure.TheVariants.{Run}
use Rattle.cube_store_commands.specs.Serving.{BreaksSession, BreaksStored, HasTooMany, IfRefused, ServesStored}
use Rattle.cube_store_commands.specs.Serving.{WritesNothing}
use Rattle.cube_store_commands.specs.declared.session.StoredFault.{StoredFault}
use Rattle.cube_store_commands.specs.declared.session.StoredFault.TheVariants.{Store, TooMany, Session}
use Rattle.cube_tool.specs.Command.{status_after}
use Rattle.cube_tool.specs.Run.{OfFeeds}
use Rattle.cube_tool.specs.declared.command.status.Status.{Status}
use Rattle.cube_tool.proofs.RunLaws.{StandsUnder, refused-under}
use Rattle.cube_tool.proofs.SessionLaws.{AreWithin-live}
use Rattle.cube_tool.specs.Session.{AreWithin}
use Rattle.cube_store_commands.specs.Stored.{BreaksStoredOver, FailsToServeStored, HasTooManyOver, ServesStoredOver}
use Rattle.cube_store_commands.specs.Stored.{FailsUnwritten, IfStoreRefused, LeavesUnwritten, failure_of}

-- what holds of the records where something else does holds of them where that does
given : {A : Type 0} {Clean : Type 0} (P : A → Type 0) (records : Option A) → IfSome records (λ taken. Clean → P taken)
    → Clean → IfSome records P
given P None holds clean = tt
given P (Some taken) holds clean = holds clean

module _ {s : Layout} {sources : SourceBytes} (was : View) (notes : List Entry) (Leaves : Trees → Type 0)
    (old new : Option (List ℕ)) (before : LiveView) (opens : OpensOver s sources (LiveStandsAt before)) where
  -- a session that was opened over feeds and served to its end
  served-over : (after : LiveView) (now : View) (status : Status) (records : Option (List (List (List ℕ))))
      → IsLive after.schema after.ledger after.numbers
      → status ≡ status_after (refusals_of_accounts after.ledger.accounts) → IfSome records (λ taken. after.schema ≡ s)
      → IfSome records (λ taken. ServesStored s was notes taken before after now Leaves old new)
      → OfFeeds s sources
      (λ feeds. IfSome records (λ taken. ServesStoredOver s feeds was notes taken status now Leaves old new))
  served-over after now status None live is schema serves =
      record { feeds = opens.feeds; good = opens.good; items = opens.items; holds = tt }
  served-over after now status (Some taken) live is schema serves =
      let start : Arrivals = arrivals_from s opens.start (stored_in was) in
      let answered = serves.answered opens.start opens.stands in
      let whole : take (length taken) taken ≡ taken = take_all (length taken) taken (omega arith) in
      let under : StandsUnder s 64 (arrivals_after s start taken) after.ledger = record {
        schema = live.schema ∙ schema;
        all = live.sources;
        stands = (serves.stands opens.start opens.stands).ledger;
      } in
      record {
        feeds = opens.feeds;
        good = opens.good;
        items = opens.items;
        holds = record {
          start = opens.start;
          starts = opens.starts;
          replied = record {
            text = answered.text;
            holds = subst (λ (rs : List (List (List ℕ))). AreReplies s start rs answered.text) whole answered.replies;
            written = answered.written;
          };
          within = subst (λ (l : Layout). AreWithin l (arrivals_after s start taken)) schema
              (AreWithin-live (arrivals_after s start taken) live (serves.stands opens.start opens.stands).numbers);
          status_is = is ∙ ap status_after (refused-under under);
          held = serves.held;
          leaves = serves.leaves;
        };
      }

  -- one that ended before its records did
  broken-over : (fault : SessionFault) (records : Option (List (List (List ℕ))))
      → IfSome records (λ taken. BreaksSession s was notes taken before Leaves old new fault)
      → OfFeeds s sources
      (λ feeds. IfSome records (λ taken. BreaksStoredOver s feeds was notes taken fault Leaves old new))
  broken-over fault None breaks = record { feeds = opens.feeds; good = opens.good; items = opens.items; holds = tt }
  broken-over fault (Some taken) breaks = record {
    feeds = opens.feeds;
    good = opens.good;
    items = opens.items;
    holds = record {
      count = breaks.0;
      kept = breaks.1;
      start = opens.start;
      starts = opens.starts;
      leaves = breaks.2 opens.start opens.stands;
    };
  }

  -- one whose store has more changes of a source than the schema takes
  too-many-over : (source : ℕ) (Crash : Type 0) (records : Option (List (List (List ℕ)))) → before.schema ≡ s
      → IfSome records (λ taken. (new ≡ old) × Crash × HasTooMany before was source)
      → OfFeeds s sources
      (λ feeds. IfSome records (λ taken. (new ≡ old) × HasTooManyOver s feeds was source × Crash))
  too-many-over source Crash None schema breaks =
      record { feeds = opens.feeds; good = opens.good; items = opens.items; holds = tt }
  too-many-over source Crash (Some taken) schema breaks = record {
    feeds = opens.feeds;
    good = opens.good;
    items = opens.items;
    holds = (
      breaks.0,
      record {
        start = opens.start;
        starts = opens.starts;
        passes = subst (λ (l : Layout). PassesLast l opens.start (stored_in was) source) schema
            (breaks.2 opens.start opens.stands);
      },
      breaks.1,
    );
  }

  pub OfFeeds-served : (after : LiveView) (now : View) (status : Status) (records : Option (List (List (List ℕ))))
      (Clean : Type 0) → before.schema ≡ s → IsLive after.schema after.ledger after.numbers
      → status ≡ status_after (refusals_of_accounts after.ledger.accounts)
      → IfSome records (λ taken. Clean → after.schema ≡ before.schema)
      → IfSome records (λ taken. Clean → ServesStored before.schema was notes taken before after now Leaves old new)
      → Clean → OfFeeds s sources
      (λ feeds. IfSome records (λ taken. ServesStoredOver s feeds was notes taken status now Leaves old new))
  OfFeeds-served after now status records Clean schema live is same serves clean =
      served-over after now status records live is
      (subst (λ (l : Layout). IfSome records (λ taken. after.schema ≡ l)) schema (given _ records same clean))
      (subst (λ (l : Layout). IfSome records (λ taken. ServesStored l was notes taken before after now Leaves old new))
      schema (given _ records serves clean))

  pub FailsToServeStored-failed : (Before : Trees → Type 0) (fault : StoredFault)
      (records : Option (List (List (List ℕ)))) (Clean : Type 0) → before.schema ≡ s
      → IfSome records (λ taken. Clean → BreaksStored before.schema was notes taken before Before Leaves old new fault)
      → Clean → FailsToServeStored s sources records was notes Before Leaves (failure_of fault) old new
  FailsToServeStored-failed Before (Store fault) records Clean schema breaks clean = given _ records breaks clean
  FailsToServeStored-failed Before (TooMany source) records Clean schema breaks clean =
      too-many-over source _ records schema (given _ records breaks clean)
  FailsToServeStored-failed Before (Session fault) records Clean schema breaks clean =
      broken-over fault records
      (subst (λ (l : Layout). IfSome records (λ taken. BreaksSession l was notes taken before Leaves old new fault))
      schema (given _ records breaks clean))

-- feeds that weren't taken leave nothing written
pub FailsUnwritten-unopened : (why : FeedingFault) (old : Option (List ℕ))
    → FailsUnwritten (Run (fault_of_feeding why)) old old
FailsUnwritten-unopened feeding_fault.Memory old = refl
FailsUnwritten-unopened feeding_fault.NoThread old = refl
FailsUnwritten-unopened (feeding_fault.Feed source fault) old = refl
FailsUnwritten-unopened feeding_fault.Full old = refl
FailsUnwritten-unopened (feeding_fault.Unsealed source) old = refl

-- and so does a store that wasn't
pub LeavesUnwritten-failed : (fault : StoredFault) (old new : Option (List ℕ)) → WritesNothing fault old new
    → LeavesUnwritten (failure_of fault) old new
LeavesUnwritten-failed (Store fault) old new none = none
LeavesUnwritten-failed (TooMany source) old new none = none
LeavesUnwritten-failed (Session fault) old new none = tt

-- what is told of it
pub IfStoreRefused-failed : (holds : StoreFault → Type 0) (fault : StoredFault) → IfRefused holds fault
    → IfStoreRefused holds (failure_of fault)
IfStoreRefused-failed holds (Store fault) is = is
IfStoreRefused-failed holds (TooMany source) is = tt
IfStoreRefused-failed holds (Session fault) is = tt
