-- What a journal has of a session:
-- of which changes it was told, and of how many it has made sure (this project's choice).
use Rattle.std.specs.Prelude.{◌≡◌, ◌+◌, ◌++◌, ◌∷◌, [], ◌⊎◌, ℕ, List, length, take, drop, Option, if◌then◌else◌}
use Rattle.cube_core.specs.Arrival.{Arrivals}
use Rattle.cube_core.specs.FeedRecords.{is_read}
use Rattle.cube_core.specs.Layout.{Layout}
use Rattle.cube_live.specs.Live.{LiveView, LiveStandsAt}
use Rattle.cube_live.specs.Request.{request_of}
use Rattle.cube_live.specs.Serving.{Answered, AnsweredInPart, IsPastLast}
use Rattle.cube_live.specs.declared.request.Request.{Request}
use Rattle.cube_live.specs.declared.request.Request.TheVariants.{Change, Ask, Wrong}
use Rattle.cube_live.specs.declared.session.SessionFault.{SessionFault}
use Rattle.cube_live.specs.declared.session.SessionFault.TheVariants.{Read, TooMany, Full, Write, Journal}

-- a change as a journal is told of it: its source, and the fields of its record
abbrev pub Noted : Type 0
Noted = ℕ × List (List ℕ)

-- the changes that a journal was told of, one after another, and how many of them, from the first, it has made sure of
pub record Keeping : Type 0 where
  pub told : List Noted
  pub sure : ℕ

-- one change more was told
abbrev pub with_change : Keeping → ℕ → List (List ℕ) → Keeping
with_change k source fields = record { told = k.told ++ (source, fields) ∷ []; sure = k.sure }

-- all that was told is made sure of
abbrev pub made_sure : Keeping → Keeping
made_sure k = record { told = k.told; sure = length k.told }

-- what was told by then, of which no more was made sure of than before
abbrev pub unsure : Keeping → Keeping → Keeping
unsure before after = record { told = after.told; sure = before.sure }

-- after a change of a source, whose record has these fields: it is told where it is in the schema's shard
abbrev pub keeping_changed : Layout → Keeping → ℕ → List (List ℕ) → Keeping
keeping_changed s k source fields = if is_read s (drop 1 fields) then with_change k source fields else k

-- after a record that asks this: a change is told, and all is made sure of before any answer
abbrev pub keeping_by : Layout → Keeping → Request → List (List ℕ) → Keeping
keeping_by s k (Change source) fields = keeping_changed s k source fields
keeping_by s k (Ask question) fields = made_sure k
keeping_by s k (Wrong fault) fields = made_sure k

-- after a record
abbrev pub keeping_with : Layout → Keeping → List (List ℕ) → Keeping
keeping_with s k fields = keeping_by s k (request_of s fields) fields

-- after records
abbrev pub keeping_after : Layout → Keeping → List (List (List ℕ)) → Keeping
keeping_after s k [] = k
keeping_after s k (fields ∷ records) = keeping_after s (keeping_with s k fields) records

-- a journal that kept so much from some first value on goes on to keep what this step makes of it
abbrev pub KeepsOn : {J : Type 0} → (J → J → Keeping → Type 0) → (J → J → Keeping → Type 0) → J → (Keeping → Keeping)
    → J → Type 0
KeepsOn {J} before after old step new = (first : J) → (k : Keeping) → before first old k → after first new (step k)

-- a step was not taken, or it was, or a call on the journal failed within it
abbrev pub KeepsPart : {J : Type 0} → (J → J → Keeping → Type 0) → (J → J → Keeping → Type 0) → J → J → Keeping
    → Keeping → Type 0
KeepsPart keeps breaks first new k next = keeps first new k ⊎ (keeps first new next ⊎ breaks first new (unsure k next))

-- what a record that failed so leaves of a step: before any byte of an answer goes out the step is taken
abbrev pub EndsIn : {J : Type 0} → (J → J → Keeping → Type 0) → (J → J → Keeping → Type 0) → SessionFault → J
    → (Keeping → Keeping) → J → Type 0
EndsIn keeps breaks (Write sent) old step new = KeepsOn keeps keeps old step new
EndsIn {J} keeps breaks Read old step new =
    (first : J) → (k : Keeping) → keeps first old k → KeepsPart keeps breaks first new k (step k)
EndsIn {J} keeps breaks (TooMany source) old step new =
    (first : J) → (k : Keeping) → keeps first old k → KeepsPart keeps breaks first new k (step k)
EndsIn {J} keeps breaks Full old step new =
    (first : J) → (k : Keeping) → keeps first old k → KeepsPart keeps breaks first new k (step k)
EndsIn {J} keeps breaks (Journal fault) old step new =
    (first : J) → (k : Keeping) → keeps first old k → KeepsPart keeps breaks first new k (step k)

-- how much of a session's records a journal kept
module _ {J : Type 0} (keeps breaks : J → J → Keeping → Type 0) (old new : J) (s : Layout)
    (records : List (List (List ℕ))) where
  -- what the first records, so many, have it keep
  abbrev pub KeepsFirst : ℕ → Type 0
  KeepsFirst count = KeepsOn keeps keeps old (λ k. keeping_after s k (take count records)) new

  -- that, and maybe a part of what the record after them has it keep, or a call on it failed before that record
  abbrev pub KeepsUpTo : ℕ → Type 0
  KeepsUpTo count = (first : J) → (k : Keeping) → keeps first old k
      → KeepsPart keeps breaks first new (keeping_after s k (take count records))
      (keeping_after s k (take (count + 1) records)) ⊎ breaks first new (keeping_after s k (take count records))

  -- how much it kept where a session failed so after so many records:
  -- before any byte of an answer all that stands before it
  abbrev pub KeepsBy : SessionFault → ℕ → Type 0
  KeepsBy Read count = KeepsUpTo count
  KeepsBy (TooMany source) count = KeepsUpTo count
  KeepsBy Full count = KeepsUpTo count
  KeepsBy (Write sent) count = KeepsFirst count
  KeepsBy (Journal fault) count = KeepsUpTo count

-- what went out where a session failed so after so many records:
-- the replies to these, but for a failed write the first bytes of them
abbrev pub LeavesAt : Layout → List (List (List ℕ)) → Arrivals → SessionFault → ℕ → Option (List ℕ) → Option (List ℕ)
    → Type 0
LeavesAt s records start Read count old new = Answered s records start count old new
LeavesAt s records start (TooMany source) count old new =
    Answered s records start count old new × IsPastLast s records start count source
LeavesAt s records start Full count old new = Answered s records start count old new
LeavesAt s records start (Write sent) count old new =
    (part : AnsweredInPart s records start sent old new) × (part.count ≡ count)
LeavesAt s records start (Journal fault) count old new = Answered s records start count old new

-- how many records stand before where a session failed so, which had taken so many:
-- all of them, or all but the one in hand; a failed write cuts off the reply to the last of them
abbrev pub IsAtTaken : SessionFault → ℕ → ℕ → Type 0
IsAtTaken Read count taken = taken ≡ count
IsAtTaken (TooMany source) count taken = taken ≡ count + 1
IsAtTaken Full count taken = (taken ≡ count) ⊎ (taken ≡ count + 1)
IsAtTaken (Write sent) count taken = taken ≡ count
IsAtTaken (Journal fault) count taken = (taken ≡ count) ⊎ (taken ≡ count + 1)

-- a session failed so, wherever the cube stood: its reader had given so many records before, and so many after it,
-- and the replies to all that it took went out, but to the one in hand
abbrev pub LeavesTaken : Layout → List (List (List ℕ)) → LiveView → SessionFault → ℕ → ℕ → Option (List ℕ)
    → Option (List ℕ) → Type 0
LeavesTaken s records before fault given taken old new = (count : ℕ) × IsAtTaken fault (given + count) taken
    × ((start : Arrivals) → LiveStandsAt before start → LeavesAt s records start fault count old new)

-- a session failed so after some of its records:
-- its journal kept what these have it keep, and the replies to them went out, wherever the cube stood
abbrev pub FailsKept : {J : Type 0} → (J → J → Keeping → Type 0) → (J → J → Keeping → Type 0) → J → J → Layout
    → List (List (List ℕ)) → LiveView → SessionFault → Option (List ℕ) → Option (List ℕ) → Type 0
FailsKept keeps breaks begun ended s records before fault old new =
    (count : ℕ) × KeepsBy keeps breaks begun ended s records fault count
    × ((start : Arrivals) → LiveStandsAt before start → LeavesAt s records start fault count old new)
