-- How many of its records a session has taken, and that where it fails all of them stand before that.
use Rattle.std.proofs.Common.{◌≡◌, inl, inr, ◌+◌, ℕ, true, List, take, drop, arith}
use Rattle.std.specs.Prelude.{Option, None, Some, IfSome}
use Rattle.cube_core.specs.Arrival.{Arrivals}
use Rattle.cube_core.specs.Layout.{Layout}
use Rattle.cube_feed.specs.Reading.{Advances, RecordsView}
use Rattle.cube_live.specs.Keeping.{LeavesTaken}
use Rattle.cube_live.specs.Live.{LiveView, LiveStandsAt}
use Rattle.cube_live.specs.Serving.{IsInputFault, IsJournalFault, Replied, ReplyFails}
use Rattle.cube_live.specs.Session.{arrivals_after}
use Rattle.cube_live.specs.declared.session.SessionFault.{SessionFault}
use Rattle.cube_live.specs.declared.session.SessionFault.TheVariants.{Read, TooMany, Full, Write, Journal}
use Rattle.cube_live.proofs.KeepingLaws.{take-longer}
use Rattle.cube_live.proofs.ServingLaws.{Answered-same, AnsweredInPart-next, Went, Went-Answered, Went-more, Went-none}
use Rattle.cube_live.proofs.ServingLaws.{taken-next}

-- how far a session has come, where its records are known:
-- so many were taken since it began, and those went out, wherever the cube stood then
abbrev pub HasTaken : Layout → Option (List (List (List ℕ))) → LiveView → Option (List (List (List ℕ))) → LiveView → ℕ
    → ℕ → ℕ → Option (List ℕ) → Option (List ℕ) → Type 0
HasTaken s first before left live given taken sent old new =
    IfSome first (λ records. (count : ℕ) × (taken ≡ given + count)
    × ((start : Arrivals) → LiveStandsAt before start → Went s records start count left live sent old new))

pub HasTaken-none : (s : Layout) (first : Option (List (List (List ℕ)))) (live : LiveView) (given : ℕ)
    (old : Option (List ℕ)) → HasTaken s first live first live given given 0 old old
HasTaken-none s None live given old = tt
HasTaken-none s (Some records) live given old =
    (0, omega arith, (λ start stands. Went-none s records start live old stands))

module _ (s : Layout) where
  pub HasTaken-more : (first : Option (List (List (List ℕ)))) (before : LiveView)
      (left : Option (List (List (List ℕ)))) (live : LiveView) (given taken sent : ℕ) (after : LiveView)
      (view : RecordsView) (more total : ℕ) (old mid new : Option (List ℕ))
      → HasTaken s first before left live given taken sent old mid → Advances left true view
      → ((arrivals : Arrivals) → LiveStandsAt live arrivals → Replied s arrivals view.fields after sent total mid new)
      → more ≡ taken + 1
      → HasTaken s first before view.left after given more total old new
  HasTaken-more None before left live given taken sent after view more total old mid new has advances replied counts =
      tt
  HasTaken-more (Some records) before left live given taken sent after view more total old mid new has advances replied counts = (
    has.0 + 1,
    omega (arith, counts, has.1),
    (λ start stands. let went = has.2 start stands in
        Went-more s records start has.0 left live after view sent total old mid new went advances
        (replied (arrivals_after s start (take has.0 records)) went.stands)),
  )

  -- where the input failed
  pub LeavesTaken-input : (first : Option (List (List (List ℕ)))) (before : LiveView)
      (left : Option (List (List (List ℕ)))) (live : LiveView) (given taken sent : ℕ) (fault : SessionFault)
      (old new : Option (List ℕ))
      → HasTaken s first before left live given taken sent old new → IsInputFault fault
      → IfSome first (λ records. LeavesTaken s records before fault given taken old new)
  LeavesTaken-input None before left live given taken sent fault old new has is = tt
  LeavesTaken-input (Some records) before left live given taken sent Read old new has is =
      (has.0, has.1, (λ start stands. Went-Answered s records start has.0 left live sent old new (has.2 start stands)))
  LeavesTaken-input (Some records) before left live given taken sent Full old new has is = (
    has.0,
    inl has.1,
    (λ start stands. Went-Answered s records start has.0 left live sent old new (has.2 start stands)),
  )
  LeavesTaken-input (Some records) before left live given taken sent (TooMany source) old new has is = absurd is
  LeavesTaken-input (Some records) before left live given taken sent (Write total) old new has is = absurd is
  LeavesTaken-input (Some records) before left live given taken sent (Journal fault) old new has is = absurd is

  -- where the journal failed before a record, or at the end
  pub LeavesTaken-journal : (first : Option (List (List (List ℕ)))) (before : LiveView)
      (left : Option (List (List (List ℕ)))) (live : LiveView) (given taken sent : ℕ) (fault : SessionFault)
      (old new : Option (List ℕ))
      → HasTaken s first before left live given taken sent old new → IsJournalFault fault
      → IfSome first (λ records. LeavesTaken s records before fault given taken old new)
  LeavesTaken-journal None before left live given taken sent fault old new has is = tt
  LeavesTaken-journal (Some records) before left live given taken sent (Journal fault) old new has is = (
    has.0,
    inl has.1,
    (λ start stands. Went-Answered s records start has.0 left live sent old new (has.2 start stands)),
  )
  LeavesTaken-journal (Some records) before left live given taken sent Read old new has is = absurd is
  LeavesTaken-journal (Some records) before left live given taken sent Full old new has is = absurd is
  LeavesTaken-journal (Some records) before left live given taken sent (TooMany source) old new has is = absurd is
  LeavesTaken-journal (Some records) before left live given taken sent (Write total) old new has is = absurd is

  -- where a record failed
  pub LeavesTaken-fails : (first : Option (List (List (List ℕ)))) (before : LiveView)
      (left : Option (List (List (List ℕ)))) (live : LiveView) (given taken sent : ℕ) (view : RecordsView) (more : ℕ)
      (fault : SessionFault) (old mid new : Option (List ℕ))
      → HasTaken s first before left live given taken sent old mid → Advances left true view
      → ((arrivals : Arrivals) → LiveStandsAt live arrivals → ReplyFails s arrivals view.fields sent fault mid new)
      → more ≡ taken + 1
      → IfSome first (λ records. LeavesTaken s records before fault given more old new)
  LeavesTaken-fails None before left live given taken sent view more fault old mid new has advances fails counts = tt
  LeavesTaken-fails (Some records) before left live given taken sent view more Read old mid new has advances fails counts = (
    has.0 + 1,
    omega (arith, counts, has.1),
    (λ start stands. absurd (fails (arrivals_after s start (take has.0 records)) (has.2 start stands).stands)),
  )
  LeavesTaken-fails (Some records) before left live given taken sent view more Full old mid new has advances fails counts = (
    has.0,
    inr (omega (arith, counts, has.1)),
    (λ start stands. let went = has.2 start stands in
        Answered-same s records start has.0 left live sent old mid new went
        (fails (arrivals_after s start (take has.0 records)) went.stands)),
  )
  LeavesTaken-fails (Some records) before left live given taken sent view more (Journal why) old mid new has advances fails counts = (
    has.0,
    inr (omega (arith, counts, has.1)),
    (λ start stands. let went = has.2 start stands in
        Answered-same s records start has.0 left live sent old mid new went
        (fails (arrivals_after s start (take has.0 records)) went.stands)),
  )
  LeavesTaken-fails (Some records) before left live given taken sent view more (TooMany source) old mid new has advances fails counts = (
    has.0,
    omega (arith, counts, has.1),
    (λ start stands.
        let went = has.2 start stands in
        let why = fails (arrivals_after s start (take has.0 records)) went.stands in
        let rest = taken-next (drop has.0 records) view (rw went.left_is at advances) in (
          Answered-same s records start has.0 left live sent old mid new went why.0,
          record {
            fields = view.fields;
            rest = rest.0;
            is_next = rest.1;
            asks = why.1.asked;
            read = why.1.read;
            last = why.1.last;
          },
        )),
  )
  LeavesTaken-fails (Some records) before left live given taken sent view more (Write total) old mid new has advances fails counts = (
    has.0 + 1,
    omega (arith, counts, has.1),
    (λ start stands.
        let went = has.2 start stands in
        let longer = take-longer records has.0 left view went.left_is advances in
        AnsweredInPart-next s records start has.0 left live view sent total old mid new went longer
        (fails (arrivals_after s start (take has.0 records)) went.stands)),
  )
