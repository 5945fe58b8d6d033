-- What serving a session promises:
-- which replies went out where it ends well, and which first part of them where it fails (this project's choice).
use Rattle.std.specs.Prelude.{◌≡◌, ◌≤◌, ◌+◌, ◌-◌, ◌∷◌, ⊤, ℕ, Bool, true, List, length, take, drop, get_or, Option}
use Rattle.std.specs.Io.KnownBytes.{Appends}
use Rattle.cube_core.specs.Arrival.{Arrivals, of_source}
use Rattle.cube_core.specs.FeedRecords.{is_read}
use Rattle.cube_core.specs.Layout.{Layout}
use Rattle.cube_live.specs.Live.{LiveView, LiveStandsAt, last_number}
use Rattle.cube_live.specs.Request.{request_of}
use Rattle.cube_live.specs.Session.{AreReplies, IsReply, arrivals_after, arrivals_changed, arrivals_with}
use Rattle.cube_live.specs.declared.request.Request.{Request}
use Rattle.cube_live.specs.declared.request.Request.TheVariants.{Change}
use Rattle.cube_live.specs.declared.session.SessionFault.{SessionFault}
use Rattle.cube_live.specs.declared.session.SessionFault.TheVariants.{Read, TooMany, Full, Write, Journal}

-- the replies to the first records of a session, so many, went out
pub record Answered (s : Layout) (records : List (List (List ℕ))) (start : Arrivals) (count : ℕ)
    (old new : Option (List ℕ)) : Type 0 where
  pub text : List ℕ
  pub replies : AreReplies s start (take count records) text
  pub written : Appends old new text

-- the first bytes of the replies to the first records of a session, so many, went out
pub record AnsweredInPart (s : Layout) (records : List (List (List ℕ))) (start : Arrivals) (sent : ℕ)
    (old new : Option (List ℕ)) : Type 0 where
  pub count : ℕ
  pub text : List ℕ
  pub replies : AreReplies s start (take count records) text
  pub within : sent ≤ length text
  pub written : Appends old new (take sent text)

-- the first record that was not replied to is a change of a source that has the last record
-- that the schema takes, and is in the schema's shard
pub record IsPastLast (s : Layout) (records : List (List (List ℕ))) (start : Arrivals) (count source : ℕ) : Type 0 where
  pub fields : List (List ℕ)
  pub rest : List (List (List ℕ))
  pub is_next : drop count records ≡ fields ∷ rest
  pub asks : request_of s fields ≡ Change source
  pub read : is_read s (drop 1 fields) ≡ true
  pub last : last_number (of_source (arrivals_after s start (take count records)) source) ≡ s.max_records

-- a session ended well: wherever the cube stood, the replies to all records went out, and it stands after them
abbrev pub Serves : Layout → List (List (List ℕ)) → LiveView → LiveView → Option (List ℕ) → Option (List ℕ) → Type 0
Serves s records before after old new = (start : Arrivals) → LiveStandsAt before start
    → Answered s records start (length records) old new × LiveStandsAt after (arrivals_after s start records)

-- what went out where a session failed so: whole replies, but for a failed write
abbrev pub LeavesReplies : Layout → List (List (List ℕ)) → Arrivals → SessionFault → Option (List ℕ) → Option (List ℕ)
    → Type 0
LeavesReplies s records start Read old new = (count : ℕ) × Answered s records start count old new
LeavesReplies s records start (TooMany source) old new =
    (count : ℕ) × Answered s records start count old new × IsPastLast s records start count source
LeavesReplies s records start Full old new = (count : ℕ) × Answered s records start count old new
LeavesReplies s records start (Write sent) old new = AnsweredInPart s records start sent old new
LeavesReplies s records start (Journal fault) old new = (count : ℕ) × Answered s records start count old new

-- a session failed so, wherever the cube stood
abbrev pub ServingFails : Layout → List (List (List ℕ)) → SessionFault → LiveView → Option (List ℕ) → Option (List ℕ)
    → Type 0
ServingFails s records fault before old new =
    (start : Arrivals) → LiveStandsAt before start → LeavesReplies s records start fault old new

-- bytes went out in part by a failed write, which tells how many with those sent before
abbrev pub WritesPart : List ℕ → ℕ → SessionFault → Option (List ℕ) → Option (List ℕ) → Type 0
WritesPart bytes sent (Write total) old new =
    (part : ℕ) × (part ≤ length bytes) × (total ≡ sent + part) × Appends old new (take part bytes)
WritesPart bytes sent _ old new = ⊥

-- the same, or nothing went out since they would be too many to count
abbrev pub WritesNone : List ℕ → ℕ → SessionFault → Option (List ℕ) → Option (List ℕ) → Type 0
WritesNone bytes sent Full old new = new ≡ old
WritesNone bytes sent fault old new = WritesPart bytes sent fault old new

-- a reply to what a record asks went out, and was counted
pub record WritesReply (s : Layout) (arrivals : Arrivals) (asks : Request) (sent total : ℕ) (old new : Option (List ℕ))
    : Type 0 where
  pub reply : List ℕ
  pub is_reply : IsReply s arrivals asks reply
  pub written : Appends old new reply
  pub counted : total ≡ sent + length reply

-- no reply went out, but for a failed write a part of one
abbrev pub BreaksReply : Layout → Arrivals → Request → ℕ → SessionFault → Option (List ℕ) → Option (List ℕ) → Type 0
BreaksReply s arrivals asks sent Full old new = new ≡ old
BreaksReply s arrivals asks sent (Write total) old new =
    (reply : List ℕ) × IsReply s arrivals asks reply × WritesPart reply sent (Write total) old new
BreaksReply s arrivals asks sent (Journal fault) old new = new ≡ old
BreaksReply s arrivals asks sent _ old new = ⊥

-- a record was taken at an arrival list, and its reply went out
pub record Replied (s : Layout) (arrivals : Arrivals) (fields : List (List ℕ)) (after : LiveView) (sent total : ℕ)
    (old new : Option (List ℕ)) : Type 0 where
  pub writes : WritesReply s arrivals (request_of s fields) sent total old new
  pub stands : LiveStandsAt after (arrivals_with s arrivals fields)

-- a change of a source, which is in the schema's shard, wasn't taken,
-- since the source has the last record that the schema takes
pub record IsOneTooMany (s : Layout) (arrivals : Arrivals) (fields : List (List ℕ)) (source : ℕ) : Type 0 where
  pub asked : request_of s fields ≡ Change source
  pub read : is_read s (drop 1 fields) ≡ true
  pub last : last_number (of_source arrivals source) ≡ s.max_records

-- a record wasn't taken, or its reply didn't go out whole
abbrev pub ReplyFails : Layout → Arrivals → List (List ℕ) → ℕ → SessionFault → Option (List ℕ) → Option (List ℕ)
    → Type 0
ReplyFails s arrivals fields sent (TooMany source) old new = (new ≡ old) × IsOneTooMany s arrivals fields source
ReplyFails s arrivals fields sent fault old new = BreaksReply s arrivals (request_of s fields) sent fault old new

-- the input couldn't be read, or memory ran out
abbrev pub IsInputFault : SessionFault → Type 0
IsInputFault Read = ⊤
IsInputFault Full = ⊤
IsInputFault _ = ⊥

-- the journal doesn't keep a change
abbrev pub IsJournalFault : SessionFault → Type 0
IsJournalFault (Journal fault) = ⊤
IsJournalFault _ = ⊥

-- a cube that is kept right took a change of a source, a data record of these fields
abbrev pub TakesChange : ℕ → List (List ℕ) → LiveView → LiveView → Type 0
TakesChange source fields old new = (arrivals : Arrivals) → LiveStandsAt old arrivals
    → LiveStandsAt new (arrivals_changed old.schema arrivals source fields)

-- why a change of a source wasn't taken: it is in the schema's shard,
-- and the source has the last record that the schema takes; memory or the journal may be wanting at any time
abbrev pub ExplainsChange : Bool → ℕ → LiveView → SessionFault → Type 0
ExplainsChange read source live (TooMany of) =
    (of ≡ source) × (read ≡ true) × (get_or live.numbers (source - 1) 0 ≡ live.schema.max_records)
ExplainsChange read source live Full = ⊤
ExplainsChange read source live (Journal fault) = ⊤
ExplainsChange read source live _ = ⊥
