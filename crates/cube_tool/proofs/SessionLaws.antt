-- What a session over feeds writes and leaves, from where it was opened.
use Rattle.std.proofs.Common.{◌≡◌, ◌≤◌, ◌-◌, ℕ, List, length, take, ap, ◌∙◌, subst, arith}
use Rattle.std.specs.Prelude.{Option, Some, None, IfSome}
use Rattle.std.proofs.lemmas.List.{take_all}
use Rattle.cube_core.specs.Arrival.{Arrivals}
use Rattle.cube_core.specs.Layout.{Layout}
use Rattle.cube_core.specs.Run.{SourceBytes}
use Rattle.cube_ledger.specs.Ledger.{LedgerView}
use Rattle.cube_live.proofs.RefusalLaws.{refusals_of_accounts}
use Rattle.cube_live.specs.Live.{AreLast, IsLive, LiveStandsAt, LiveView}
use Rattle.cube_live.specs.Opening.{OpensOver}
use Rattle.cube_live.specs.Serving.{Serves, ServingFails}
use Rattle.cube_live.specs.Session.{AreReplies, arrivals_after}
use Rattle.cube_live.specs.declared.session.SessionFault.{SessionFault}
use Rattle.cube_tool.specs.Command.{status_after}
use Rattle.cube_tool.specs.Run.{OfFeeds}
use Rattle.cube_tool.specs.Session.{AreWithin, BreaksOver, ServesOver}
use Rattle.cube_tool.specs.declared.command.status.Status.{Status}
use Rattle.cube_tool.proofs.RunLaws.{StandsUnder, refused-under}

-- no source of a cube that is kept right has an item past the last record that the schema takes
pub AreWithin-live : {s : Layout} {ledger : LedgerView} {numbers : List ℕ} (arrivals : Arrivals)
    → IsLive s ledger numbers → AreLast numbers arrivals → AreWithin s arrivals
AreWithin-live {s = s} arrivals live last = λ source from to.
    subst (λ (n : ℕ). n ≤ s.max_records) (last source from to) (live.at_most (source - 1))

-- a session that was opened over feeds and served to its end
served-over : {s : Layout} {sources : SourceBytes} (before after : LiveView) (records : Option (List (List (List ℕ))))
    (status : Status) (old new : Option (List ℕ))
    → OpensOver s sources (LiveStandsAt before) → IsLive s after.ledger after.numbers
    → status ≡ status_after (refusals_of_accounts after.ledger.accounts)
    → IfSome records (λ taken. Serves s taken before after old new)
    → OfFeeds s sources (λ feeds. IfSome records (λ taken. ServesOver s feeds taken status old new))
served-over before after None status old new opens live is serves =
    record { feeds = opens.feeds; good = opens.good; items = opens.items; holds = tt }
served-over {s = s} before after (Some taken) status old new opens live is serves =
    let served = serves opens.start opens.stands in
    let whole : take (length taken) taken ≡ taken = take_all (length taken) taken (omega arith) in
    let under : StandsUnder s 64 (arrivals_after s opens.start taken) after.ledger = record {
      schema = live.schema;
      all = live.sources;
      stands = served.1.ledger;
    } in
    record {
      feeds = opens.feeds;
      good = opens.good;
      items = opens.items;
      holds = record {
        start = opens.start;
        starts = opens.starts;
        replied = record {
          text = served.0.text;
          holds =
              subst (λ (rs : List (List (List ℕ))). AreReplies s opens.start rs served.0.text) whole served.0.replies;
          written = served.0.written;
        };
        within = AreWithin-live (arrivals_after s opens.start taken) live served.1.numbers;
        status_is = is ∙ ap status_after (refused-under under);
      };
    }

pub OfFeeds-served : {s : Layout} {sources : SourceBytes} (before after : LiveView)
    (records : Option (List (List (List ℕ))))
    (status : Status) (old new : Option (List ℕ)) → before.schema ≡ s
    → OpensOver s sources (LiveStandsAt before) → IsLive s after.ledger after.numbers
    → status ≡ status_after (refusals_of_accounts after.ledger.accounts)
    → IfSome records (λ taken. Serves before.schema taken before after old new)
    → OfFeeds s sources (λ feeds. IfSome records (λ taken. ServesOver s feeds taken status old new))
OfFeeds-served before after records status old new schema opens live is serves =
    served-over before after records status old new opens live is
    (subst (λ (l : Layout). IfSome records (λ taken. Serves l taken before after old new)) schema serves)

-- one that ended before its records did
broken-over : {s : Layout} {sources : SourceBytes} (before : LiveView) (records : Option (List (List (List ℕ))))
    (fault : SessionFault) (old new : Option (List ℕ))
    → OpensOver s sources (LiveStandsAt before) → IfSome records (λ taken. ServingFails s taken fault before old new)
    → OfFeeds s sources (λ feeds. IfSome records (λ taken. BreaksOver s feeds taken fault old new))
broken-over before None fault old new opens fails =
    record { feeds = opens.feeds; good = opens.good; items = opens.items; holds = tt }
broken-over before (Some taken) fault old new opens fails = record {
  feeds = opens.feeds;
  good = opens.good;
  items = opens.items;
  holds = record { start = opens.start; starts = opens.starts; leaves = fails opens.start opens.stands };
}

pub OfFeeds-broken : {s : Layout} {sources : SourceBytes} (before : LiveView) (records : Option (List (List (List ℕ))))
    (fault : SessionFault) (old new : Option (List ℕ)) → before.schema ≡ s
    → OpensOver s sources (LiveStandsAt before)
    → IfSome records (λ taken. ServingFails before.schema taken fault before old new)
    → OfFeeds s sources (λ feeds. IfSome records (λ taken. BreaksOver s feeds taken fault old new))
OfFeeds-broken before records fault old new schema opens fails =
    broken-over before records fault old new opens
    (subst (λ (l : Layout). IfSome records (λ taken. ServingFails l taken fault before old new)) schema fails)
