-- What a journal keeps of a session, record by record.
use Rattle.std.proofs.Common.{◌≡◌, inl, inr, ◌+◌, ℕ, true, false, List, [], ◌∷◌, ◌++◌, take, drop, refl, sym}
use Rattle.std.proofs.Common.{ap, subst, ◌∙◌, add-one}
use Rattle.std.specs.Prelude.{Option, None, Some, IfSome, Result, Ok, Err, OnOk, OnErr, IfErr}
use Rattle.cube_core.specs.Arrival.{Arrivals}
use Rattle.cube_core.specs.FeedRecords.{is_read}
use Rattle.cube_core.specs.Layout.{Layout}
use Rattle.cube_feed.specs.Reading.{Advances, RecordsView}
use Rattle.cube_live.specs.Keeping.{EndsIn, FailsKept, Keeping, KeepsFirst, KeepsOn, KeepsPart, KeepsUpTo}
use Rattle.cube_live.specs.Keeping.{keeping_after, keeping_by, keeping_changed, keeping_with, made_sure, with_change}
use Rattle.cube_live.specs.Live.{LiveView, LiveStandsAt}
use Rattle.cube_live.specs.Serving.{IsInputFault, IsJournalFault, Replied, ReplyFails}
use Rattle.cube_live.specs.Session.{arrivals_after}
use Rattle.cube_live.specs.declared.request.Request.{Request}
use Rattle.cube_live.specs.declared.session.SessionFault.{SessionFault}
use Rattle.cube_live.specs.declared.session.SessionFault.TheVariants.{Read, TooMany, Full, Write, Journal}
use Rattle.cube_live.proofs.ReplyLaws.{take-next}
use Rattle.cube_live.proofs.ServingLaws.{Went, Went-Answered, Went-more, Went-none, none-left, take-none_left}
use Rattle.cube_live.proofs.ServingLaws.{Answered-same, AnsweredInPart-next, taken-next}

-- what is kept after records, and after more
pub keeping_after-append : (s : Layout) (k : Keeping) (some more : List (List (List ℕ)))
    → keeping_after s k (some ++ more) ≡ keeping_after s (keeping_after s k some) more
keeping_after-append s k [] more = refl
keeping_after-append s k (fields ∷ some) more = keeping_after-append s (keeping_with s k fields) some more

-- the first records, with the one that was taken next
pub take-longer : (records : List (List (List ℕ))) (count : ℕ) (left : Option (List (List (List ℕ)))) (view : RecordsView)
    → left ≡ Some (drop count records) → Advances left true view
    → take (count + 1) records ≡ take count records ++ view.fields ∷ []
take-longer records count left view is advances =
    let next = taken-next (drop count records) view (rw is at advances) in
    ap (λ n. take n records) (add-one count) ∙ (take-next count records view.fields next.0 next.1).0

-- what holds in any case holds of a result
pub OnOk-always : {T E X : Type 0} (r : Result T E) → X → OnOk r X
OnOk-always (Ok value) holds = holds
OnOk-always (Err fault) holds = tt

pub IfErr-always : {T E : Type 0} (r : Result T E) (P : E → Type 0) → ((fault : E) → P fault) → IfErr r P
IfErr-always (Ok value) P holds = tt
IfErr-always (Err fault) P holds = holds fault

pub IfErr-and : {T E : Type 0} (r : Result T E) (P Q : E → Type 0) (X : Type 0) → IfErr r P → OnErr r X
    → ((fault : E) → P fault → X → Q fault) → IfErr r Q
IfErr-and (Ok value) P Q X is on holds = tt
IfErr-and (Err fault) P Q X is on holds = holds fault is on

module _ {J : Type 0} (keeps breaks : J → J → Keeping → Type 0) where
  -- ---- how a record ends
  -- a step that was taken, however the record failed then
  pub EndsIn-taken : (fault : SessionFault) (old : J) (step : Keeping → Keeping) (new : J)
      → KeepsOn keeps keeps old step new → EndsIn keeps breaks fault old step new
  EndsIn-taken Read old step new on = λ first k kept. inr (inl (on first k kept))
  EndsIn-taken (TooMany source) old step new on = λ first k kept. inr (inl (on first k kept))
  EndsIn-taken Full old step new on = λ first k kept. inr (inl (on first k kept))
  EndsIn-taken (Write sent) old step new on = on
  EndsIn-taken (Journal fault) old step new on = λ first k kept. inr (inl (on first k kept))

  -- one in which the journal didn't make sure
  pub EndsIn-unsettled : (fault : SessionFault) (old new : J) → IsJournalFault fault
      → KeepsOn keeps breaks old (λ k. k) new → EndsIn keeps breaks fault old made_sure new
  EndsIn-unsettled Read old new is on = absurd is
  EndsIn-unsettled (TooMany source) old new is on = absurd is
  EndsIn-unsettled Full old new is on = absurd is
  EndsIn-unsettled (Write sent) old new is on = absurd is
  EndsIn-unsettled (Journal fault) old new is on = λ first k kept. inr (inr (on first k kept))

  -- a change that is read is told
  pub KeepsOn-read : (after : J → J → Keeping → Type 0) (s : Layout) (old : J) (source : ℕ) (fields : List (List ℕ))
      (new : J) → is_read s (drop 1 fields) ≡ true
      → KeepsOn keeps after old (λ k. with_change k source fields) new
      → KeepsOn keeps after old (λ k. keeping_changed s k source fields) new
  KeepsOn-read after s old source fields new read on = λ first k kept. rw read (on first k kept)

  pub KeepsOn-other : (s : Layout) (old : J) (source : ℕ) (fields : List (List ℕ)) → is_read s (drop 1 fields) ≡ false
      → KeepsOn keeps keeps old (λ k. keeping_changed s k source fields) old
  KeepsOn-other s old source fields other = λ first k kept. rw other kept

  -- and where the journal failed
  pub EndsIn-untold : (s : Layout) (fault : SessionFault) (old : J) (source : ℕ) (fields : List (List ℕ)) (new : J)
      → IsJournalFault fault → is_read s (drop 1 fields) ≡ true
      → KeepsOn keeps breaks old (λ k. with_change k source fields) new
      → EndsIn keeps breaks fault old (λ k. keeping_changed s k source fields) new
  EndsIn-untold s Read old source fields new is read on = absurd is
  EndsIn-untold s (TooMany of) old source fields new is read on = absurd is
  EndsIn-untold s Full old source fields new is read on = absurd is
  EndsIn-untold s (Write sent) old source fields new is read on = absurd is
  EndsIn-untold s (Journal fault) old source fields new is read on =
      λ first k kept. inr (inr (rw read (on first k kept)))

  -- the same step under another name
  pub EndsIn-asks : (s : Layout) (fault : SessionFault) (old : J) (asks other : Request) (fields : List (List ℕ))
      (new : J) → asks ≡ other
      → EndsIn keeps breaks fault old (λ k. keeping_by s k asks fields) new
      → EndsIn keeps breaks fault old (λ k. keeping_by s k other fields) new
  EndsIn-asks s fault old asks other fields new is ends =
      subst (λ (r : Request). EndsIn keeps breaks fault old (λ k. keeping_by s k r fields) new) is ends

  pub KeepsOn-asks : (s : Layout) (old : J) (asks other : Request) (fields : List (List ℕ)) (new : J) → asks ≡ other
      → KeepsOn keeps keeps old (λ k. keeping_by s k asks fields) new
      → KeepsOn keeps keeps old (λ k. keeping_by s k other fields) new
  KeepsOn-asks s old asks other fields new is on =
      subst (λ (r : Request). KeepsOn keeps keeps old (λ k. keeping_by s k r fields) new) is on

  -- ---- all records
  -- how far a session has come, where its records are known:
  -- what the journal keeps of them, and what went out, wherever the cube stood when it began
  abbrev pub HasKept : J → J → Layout → Option (List (List (List ℕ))) → LiveView → Option (List (List (List ℕ)))
      → LiveView → ℕ → Option (List ℕ) → Option (List ℕ) → Type 0
  HasKept begun now s first before left live sent old new =
      IfSome first (λ taken. (count : ℕ) × (left ≡ Some (drop count taken))
      × KeepsFirst keeps breaks begun now s taken count
      × ((start : Arrivals) → LiveStandsAt before start → Went s taken start count left live sent old new))

  pub HasKept-none : (journal : J) (s : Layout) (first : Option (List (List (List ℕ)))) (live : LiveView)
      (old : Option (List ℕ)) → HasKept journal journal s first live first live 0 old old
  HasKept-none journal s None live old = tt
  HasKept-none journal s (Some taken) live old =
      (0, refl, (λ first k kept. kept), (λ start stands. Went-none s taken start live old stands))

  module _ (begun now : J) (s : Layout) where
    -- what is kept of one record more
    KeepsFirst-more : (records : List (List (List ℕ))) (count : ℕ) (fields : List (List ℕ)) (next : J)
        → take (count + 1) records ≡ take count records ++ fields ∷ []
        → KeepsFirst keeps breaks begun now s records count
        → KeepsOn keeps keeps now (λ k. keeping_with s k fields) next
        → KeepsFirst keeps breaks begun next s records (count + 1)
    KeepsFirst-more records count fields next longer so_far on = λ first k kept.
        subst (λ (more : Keeping). keeps first next more)
        (sym (ap (keeping_after s k) longer ∙ keeping_after-append s k (take count records) (fields ∷ [])))
        (on first (keeping_after s k (take count records)) (so_far first k kept))

    KeepsUpTo-part : (records : List (List (List ℕ))) (count : ℕ) (fields : List (List ℕ)) (next : J)
        → take (count + 1) records ≡ take count records ++ fields ∷ []
        → KeepsFirst keeps breaks begun now s records count →
        ((first : J) (k : Keeping) → keeps first now k → KeepsPart keeps breaks first next k (keeping_with s k fields))
        → KeepsUpTo keeps breaks begun next s records count
    KeepsUpTo-part records count fields next longer so_far part = λ first k kept.
        inl (subst (λ (more : Keeping). KeepsPart keeps breaks first next (keeping_after s k (take count records)) more)
        (sym (ap (keeping_after s k) longer ∙ keeping_after-append s k (take count records) (fields ∷ [])))
        (part first (keeping_after s k (take count records)) (so_far first k kept)))

    pub HasKept-more : (first : Option (List (List (List ℕ)))) (before : LiveView)
        (left : Option (List (List (List ℕ)))) (live after : LiveView) (view : RecordsView) (sent total : ℕ)
        (old mid new : Option (List ℕ)) (next : J)
        → HasKept begun now s first before left live sent old mid → Advances left true view
        → ((arrivals : Arrivals) → LiveStandsAt live arrivals → Replied s arrivals view.fields after sent total mid new)
        → KeepsOn keeps keeps now (λ k. keeping_with s k view.fields) next
        → HasKept begun next s first before view.left after total old new
    HasKept-more None before left live after view sent total old mid new next kept advances replied on = tt
    HasKept-more (Some taken) before left live after view sent total old mid new next kept advances replied on =
        let count : ℕ = kept.0 in
        let step = taken-next (drop count taken) view (rw kept.1 at advances) in
        let longer = take-next count taken view.fields step.0 step.1 in (
          count + 1,
          step.2 ∙ ap Some (sym (ap (λ n. drop n taken) (add-one count) ∙ longer.1)),
          KeepsFirst-more taken count view.fields next (take-longer taken count left view kept.1 advances) kept.2 on,
          (λ start stands. let went = kept.3 start stands in
              Went-more s taken start count left live after view sent total old mid new went advances
              (replied (arrivals_after s start (take count taken)) went.stands)),
        )

    -- where the journal keeps what it kept
    pub HasKept-still : (first : Option (List (List (List ℕ)))) (before : LiveView)
        (left : Option (List (List (List ℕ)))) (live : LiveView) (sent : ℕ) (old new : Option (List ℕ)) (next : J)
        → HasKept begun now s first before left live sent old new → KeepsOn keeps keeps now (λ k. k) next
        → HasKept begun next s first before left live sent old new
    HasKept-still None before left live sent old new next kept on = tt
    HasKept-still (Some taken) before left live sent old new next kept on = (
      kept.0,
      kept.1,
      (λ first k here. on first (keeping_after s k (take kept.0 taken)) (kept.2 first k here)),
      kept.3,
    )

    -- at the end of the input
    pub HasKept-all : (first : Option (List (List (List ℕ)))) (before : LiveView) (left : Option (List (List (List ℕ))))
        (live : LiveView) (view : RecordsView) (sent : ℕ) (old new : Option (List ℕ)) (next : J)
        → HasKept begun now s first before left live sent old new → Advances left false view
        → KeepsOn keeps keeps now made_sure next
        → IfSome first (λ taken. KeepsOn keeps keeps begun (λ k. made_sure (keeping_after s k taken)) next)
    HasKept-all None before left live view sent old new next kept advances on = tt
    HasKept-all (Some taken) before left live view sent old new next kept advances on = λ first k here.
        let all : take kept.0 taken ≡ taken =
        take-none_left kept.0 taken (none-left (drop kept.0 taken) view (rw kept.1 at advances)) in
        subst (λ (records : List (List (List ℕ))). keeps first next (made_sure (keeping_after s k records))) all
        (on first (keeping_after s k (take kept.0 taken)) (kept.2 first k here))

    -- where the input failed
    pub HasKept-input : (first : Option (List (List (List ℕ)))) (before : LiveView)
        (left : Option (List (List (List ℕ)))) (live : LiveView) (sent : ℕ) (fault : SessionFault)
        (old new : Option (List ℕ))
        → HasKept begun now s first before left live sent old new → IsInputFault fault
        → IfSome first (λ taken. FailsKept keeps breaks begun now s taken before fault old new)
    HasKept-input None before left live sent fault old new kept is = tt
    HasKept-input (Some taken) before left live sent Read old new kept is = (
      kept.0,
      (λ first k here. inl (inl (kept.2 first k here))),
      (λ start stands. Went-Answered s taken start kept.0 left live sent old new (kept.3 start stands)),
    )
    HasKept-input (Some taken) before left live sent Full old new kept is = (
      kept.0,
      (λ first k here. inl (inl (kept.2 first k here))),
      (λ start stands. Went-Answered s taken start kept.0 left live sent old new (kept.3 start stands)),
    )
    HasKept-input (Some taken) before left live sent (TooMany source) old new kept is = absurd is
    HasKept-input (Some taken) before left live sent (Write total) old new kept is = absurd is
    HasKept-input (Some taken) before left live sent (Journal fault) old new kept is = absurd is

    -- where the journal failed before a record, or at the end
    pub HasKept-journal : (first : Option (List (List (List ℕ)))) (before : LiveView)
        (left : Option (List (List (List ℕ)))) (live : LiveView) (sent : ℕ) (fault : SessionFault)
        (old new : Option (List ℕ)) (next : J)
        → HasKept begun now s first before left live sent old new → IsJournalFault fault
        → KeepsOn keeps breaks now (λ k. k) next
        → IfSome first (λ taken. FailsKept keeps breaks begun next s taken before fault old new)
    HasKept-journal None before left live sent fault old new next kept is on = tt
    HasKept-journal (Some taken) before left live sent (Journal fault) old new next kept is on = (
      kept.0,
      (λ first k here. inr (on first (keeping_after s k (take kept.0 taken)) (kept.2 first k here))),
      (λ start stands. Went-Answered s taken start kept.0 left live sent old new (kept.3 start stands)),
    )
    HasKept-journal (Some taken) before left live sent Read old new next kept is on = absurd is
    HasKept-journal (Some taken) before left live sent Full old new next kept is on = absurd is
    HasKept-journal (Some taken) before left live sent (TooMany source) old new next kept is on = absurd is
    HasKept-journal (Some taken) before left live sent (Write total) old new next kept is on = absurd is

    -- where a record failed
    pub HasKept-fails : (first : Option (List (List (List ℕ)))) (before : LiveView)
        (left : Option (List (List (List ℕ)))) (live : LiveView) (view : RecordsView) (sent : ℕ) (fault : SessionFault)
        (old mid new : Option (List ℕ)) (next : J)
        → HasKept begun now s first before left live sent old mid → Advances left true view
        → ((arrivals : Arrivals) → LiveStandsAt live arrivals → ReplyFails s arrivals view.fields sent fault mid new)
        → EndsIn keeps breaks fault now (λ k. keeping_with s k view.fields) next
        → IfSome first (λ taken. FailsKept keeps breaks begun next s taken before fault old new)
    HasKept-fails None before left live view sent fault old mid new next kept advances fails ends = tt
    HasKept-fails (Some taken) before left live view sent Read old mid new next kept advances fails ends = (
      kept.0,
      KeepsUpTo-part taken kept.0 view.fields next (take-longer taken kept.0 left view kept.1 advances) kept.2 ends,
      (λ start stands. let went = kept.3 start stands in
          absurd (fails (arrivals_after s start (take kept.0 taken)) went.stands)),
    )
    HasKept-fails (Some taken) before left live view sent Full old mid new next kept advances fails ends = (
      kept.0,
      KeepsUpTo-part taken kept.0 view.fields next (take-longer taken kept.0 left view kept.1 advances) kept.2 ends,
      (λ start stands. let went = kept.3 start stands in
          Answered-same s taken start kept.0 left live sent old mid new went
          (fails (arrivals_after s start (take kept.0 taken)) went.stands)),
    )
    HasKept-fails (Some taken) before left live view sent (Journal fault) old mid new next kept advances fails ends = (
      kept.0,
      KeepsUpTo-part taken kept.0 view.fields next (take-longer taken kept.0 left view kept.1 advances) kept.2 ends,
      (λ start stands. let went = kept.3 start stands in
          Answered-same s taken start kept.0 left live sent old mid new went
          (fails (arrivals_after s start (take kept.0 taken)) went.stands)),
    )
    HasKept-fails (Some taken) before left live view sent (TooMany source) old mid new next kept advances fails ends =
        let rest = taken-next (drop kept.0 taken) view (rw kept.1 at advances) in (
          kept.0,
          KeepsUpTo-part taken kept.0 view.fields next (take-longer taken kept.0 left view kept.1 advances) kept.2 ends,
          (λ start stands.
              let went = kept.3 start stands in
              let why = fails (arrivals_after s start (take kept.0 taken)) went.stands in (
                Answered-same s taken start kept.0 left live sent old mid new went why.0,
                record {
                  fields = view.fields;
                  rest = rest.0;
                  is_next = rest.1;
                  asks = why.1.asked;
                  read = why.1.read;
                  last = why.1.last;
                },
              )),
        )
    HasKept-fails (Some taken) before left live view sent (Write total) old mid new next kept advances fails ends =
        let longer = take-longer taken kept.0 left view kept.1 advances in (
          kept.0 + 1,
          KeepsFirst-more taken kept.0 view.fields next longer kept.2 ends,
          (λ start stands. let went = kept.3 start stands in
              AnsweredInPart-next s taken start kept.0 left live view sent total old mid new went longer
              (fails (arrivals_after s start (take kept.0 taken)) went.stands)),
        )
