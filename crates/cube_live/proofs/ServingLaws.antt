-- How far a session has come, and what it leaves where it ends.
use Rattle.std.proofs.Common.{◌≡◌, ◌+◌, ◌≤◌, ℕ, zero, suc, true, false, List, [], ◌∷◌, ◌++◌, length, take, drop, refl}
use Rattle.std.proofs.Common.{sym, ap, ◌∙◌, add-one, add-zero, arith, length-append}
use Rattle.std.specs.Prelude.{Option, None, Some, IfSome, Result}
use Rattle.std.specs.Io.KnownBytes.{Appends}
use Rattle.std.proofs.lemmas.List.{take_all, take-append-le}
use Rattle.csv.proofs.WriteFacts.{appends-none, appends-more}
use Rattle.cube_core.specs.Arrival.{Arrivals, of_source}
use Rattle.cube_core.specs.FeedRecords.{change_in_order, is_read}
use Rattle.cube_core.specs.Layout.{Layout}
use Rattle.cube_core.specs.declared.change.Change.{Change}
use Rattle.cube_core.specs.declared.change.LineFault.{LineFault}
use Rattle.cube_feed.specs.Reading.{Advances, RecordsView}
use Rattle.cube_live.specs.Live.{LiveView, LiveStandsAt, TakesNext, last_number}
use Rattle.cube_live.specs.Request.{request_of}
use Rattle.cube_live.specs.Serving.{Answered, AnsweredInPart, LeavesReplies, Serves, ServingFails, Replied, ReplyFails}
use Rattle.cube_live.specs.Serving.{IsJournalFault, IsInputFault, WritesNone, WritesPart, WritesReply}
use Rattle.cube_live.specs.Serving.{BreaksReply, ExplainsChange}
use Rattle.cube_live.specs.Serving.{TakesChange}
use Rattle.cube_live.specs.Session.{AreReplies, IsReply, arrivals_after, arrivals_changed}
use Rattle.cube_live.specs.declared.request.Question.{Question}
use Rattle.cube_live.specs.declared.request.Request.{Request}
use Rattle.cube_live.specs.declared.request.Request.TheVariants as request
use Rattle.cube_live.specs.declared.request.RequestFault.{RequestFault}
use Rattle.cube_live.specs.declared.session.SessionFault.{SessionFault}
use Rattle.cube_live.specs.declared.session.SessionFault.TheVariants.{Read, TooMany, Full, Write, Journal}
use Rattle.cube_live.proofs.ReplyLaws.{AreReplies-more, arrivals_after-append, take-next}

-- so many records were replied to, by so many bytes, and the others are left
pub record Went (s : Layout) (records : List (List (List ℕ))) (start : Arrivals) (count : ℕ)
    (left : Option (List (List (List ℕ)))) (live : LiveView) (sent : ℕ) (old new : Option (List ℕ)) : Type 0 where
  pub text : List ℕ
  pub replies : AreReplies s start (take count records) text
  pub written : Appends old new text
  pub counted : sent ≡ length text
  pub stands : LiveStandsAt live (arrivals_after s start (take count records))
  pub left_is : left ≡ Some (drop count records)

-- before the first record
pub Went-none : (s : Layout) (records : List (List (List ℕ))) (start : Arrivals) (live : LiveView)
    (old : Option (List ℕ)) → LiveStandsAt live start
    → Went s records start 0 (Some records) live 0 old old
Went-none s records start live old stands = record {
  text = [];
  replies = refl;
  written = appends-none old;
  counted = refl;
  stands = stands;
  left_is = refl;
}

-- where a record was taken, it is the next of those that were left
pub taken-next : (left : List (List (List ℕ))) (view : RecordsView) → Advances (Some left) true view
    → (rest : List (List (List ℕ))) × (left ≡ view.fields ∷ rest) × (view.left ≡ Some rest)
taken-next [] view advances = cc advances
taken-next (fields ∷ rest) view advances = (rest, ap (λ f. f ∷ rest) (sym advances.1), advances.2)

-- after one record more
pub Went-more : (s : Layout) (records : List (List (List ℕ))) (start : Arrivals) (count : ℕ)
    (left : Option (List (List (List ℕ)))) (live after : LiveView) (view : RecordsView) (sent total : ℕ)
    (old mid new : Option (List ℕ))
    → Went s records start count left live sent old mid → Advances left true view
    → Replied s (arrivals_after s start (take count records)) view.fields after sent total mid new
    → Went s records start (count + 1) view.left after total old new
Went-more s records start count left live after view sent total old mid new went advances replied =
    let next = taken-next (drop count records) view (rw went.left_is at advances) in
    let step = take-next count records view.fields next.0 next.1 in
    let longer : take (count + 1) records ≡ take count records ++ view.fields ∷ [] =
    ap (λ n. take n records) (add-one count) ∙ step.0 in
    record {
      text = went.text ++ replied.writes.reply;
      replies = rw longer (AreReplies-more s start
          (take count records) view.fields went.text replied.writes.reply went.replies replied.writes.is_reply);
      written = appends-more old mid new went.text replied.writes.reply went.written replied.writes.written;
      counted = replied.writes.counted ∙ ap (λ n. n + length replied.writes.reply) went.counted
          ∙ sym (length-append went.text replied.writes.reply);
      stands = rw (longer, arrivals_after-append s start (take count records) (view.fields ∷ [])) replied.stands;
      left_is = next.2 ∙ ap Some (sym (ap (λ n. drop n records) (add-one count) ∙ step.1));
    }

-- the whole replies that went out
pub Went-Answered : (s : Layout) (records : List (List (List ℕ))) (start : Arrivals) (count : ℕ)
    (left : Option (List (List (List ℕ)))) (live : LiveView) (sent : ℕ) (old new : Option (List ℕ))
    → Went s records start count left live sent old new → Answered s records start count old new
Went-Answered s records start count left live sent old new went =
    record { text = went.text; replies = went.replies; written = went.written }

-- no record is left
pub none-left : (left : List (List (List ℕ))) (view : RecordsView) → Advances (Some left) false view → left ≡ []
none-left [] view advances = refl
none-left (fields ∷ rest) view advances = cc advances.0

pub take-none_left : {A : Type 0} (count : ℕ) (records : List A) → drop count records ≡ []
    → take count records ≡ records
take-none_left zero [] is = refl
take-none_left zero (r ∷ records) is = cc is
take-none_left (suc count) [] is = refl
take-none_left (suc count) (r ∷ records) is = ap (λ l. r ∷ l) (take-none_left count records is)

-- at the end of the input all were replied to
pub Went-all : (s : Layout) (records : List (List (List ℕ))) (start : Arrivals) (count : ℕ)
    (left : Option (List (List (List ℕ)))) (live : LiveView) (view : RecordsView) (sent : ℕ) (old new : Option (List ℕ))
    → Went s records start count left live sent old new → Advances left false view
    → Answered s records start (length records) old new × LiveStandsAt live (arrivals_after s start records)
Went-all s records start count left live view sent old new went advances =
    let all : take count records ≡ records =
    take-none_left count records (none-left (drop count records) view (rw went.left_is at advances)) in
    let whole : take (length records) records ≡ records = take_all (length records) records (omega arith) in (
      record { text = went.text; replies = rw whole (rw all at went.replies); written = went.written },
      rw all at went.stands,
    )

-- a failed read or a failed journal leaves whole replies
pub LeavesReplies-Answered : (s : Layout) (records : List (List (List ℕ))) (start : Arrivals) (count : ℕ)
    (fault : SessionFault) (old new : Option (List ℕ))
    → IsInputFault fault → Answered s records start count old new → LeavesReplies s records start fault old new
LeavesReplies-Answered s records start count Read old new is answered = (count, answered)
LeavesReplies-Answered s records start count (TooMany source) old new is answered = absurd is
LeavesReplies-Answered s records start count Full old new is answered = (count, answered)
LeavesReplies-Answered s records start count (Write sent) old new is answered = absurd is
LeavesReplies-Answered s records start count (Journal fault) old new is answered = absurd is

pub LeavesReplies-journal : (s : Layout) (records : List (List (List ℕ))) (start : Arrivals) (count : ℕ)
    (fault : SessionFault)
    (old new : Option (List ℕ))
    → IsJournalFault fault → Answered s records start count old new → LeavesReplies s records start fault old new
LeavesReplies-journal s records start count Read old new is answered = absurd is
LeavesReplies-journal s records start count (TooMany source) old new is answered = absurd is
LeavesReplies-journal s records start count Full old new is answered = absurd is
LeavesReplies-journal s records start count (Write sent) old new is answered = absurd is
LeavesReplies-journal s records start count (Journal fault) old new is answered = (count, answered)

-- the first bytes of a text and of a reply after it
pub take-past : (text reply : List ℕ) (part : ℕ) → take (length text + part) (text ++ reply) ≡ text ++ take part reply
take-past [] reply part = ap (λ n. take n reply) (zero-plus part) where
  zero-plus : (n : ℕ) → 0 + n ≡ n
  zero-plus n = omega arith
take-past (b ∷ text) reply part = rw (suc-plus (length text) part) (ap (λ l. b ∷ l) (take-past text reply part)) where
  suc-plus : (n m : ℕ) → suc n + m ≡ suc (n + m)
  suc-plus n m = omega arith

-- a failure in the middle leaves the replies before, and but for a failed write nothing more
pub LeavesReplies-ReplyFails : (s : Layout) (records : List (List (List ℕ))) (start : Arrivals) (count : ℕ)
    (left : Option (List (List (List ℕ)))) (live : LiveView) (view : RecordsView) (sent : ℕ) (fault : SessionFault)
    (old mid new : Option (List ℕ))
    → Went s records start count left live sent old mid → Advances left true view
    → ReplyFails s (arrivals_after s start (take count records)) view.fields sent fault mid new
    → LeavesReplies s records start fault old new
LeavesReplies-ReplyFails s records start count left live view sent Read old mid new went advances fails = absurd fails
LeavesReplies-ReplyFails s records start count left live view sent Full old mid new went advances fails =
    (count, record { text = went.text; replies = went.replies; written = rw fails went.written })
LeavesReplies-ReplyFails s records start count left live view sent (Journal fault) old mid new went advances fails =
    (count, record { text = went.text; replies = went.replies; written = rw fails went.written })
LeavesReplies-ReplyFails s records start count left live view sent (TooMany source) old mid new went advances fails =
    let next = taken-next (drop count records) view (rw went.left_is at advances) in (
      count,
      record { text = went.text; replies = went.replies; written = rw fails.0 went.written },
      record {
        fields = view.fields;
        rest = next.0;
        is_next = next.1;
        asks = fails.1.asked;
        read = fails.1.read;
        last = fails.1.last;
      },
    )
LeavesReplies-ReplyFails s records start count left live view sent (Write total) old mid new went advances fails =
    let next = taken-next (drop count records) view (rw went.left_is at advances) in
    let step = take-next count records view.fields next.0 next.1 in
    let longer : take (count + 1) records ≡ take count records ++ view.fields ∷ [] =
    ap (λ n. take n records) (add-one count) ∙ step.0 in
    let reply : List ℕ = fails.0 in
    let part : ℕ = fails.2.0 in
    record {
      count = count + 1;
      text = went.text ++ reply;
      replies =
          rw longer (AreReplies-more s start (take count records) view.fields went.text reply went.replies fails.1);
      within = omega (arith, fails.2.1, fails.2.2, went.counted, length-append went.text reply);
      written =
          let same : take total (went.text ++ reply) ≡ went.text ++ take part reply =
          ap (λ n. take n (went.text ++ reply)) (fails.2.2 ∙ ap (λ n. n + part) went.counted)
          ∙ take-past went.text reply part in
          rw same (appends-more old mid new went.text (take part reply) went.written fails.2.3);
    }

-- what went out of a record that failed, but by a write
pub Answered-same : (s : Layout) (records : List (List (List ℕ))) (start : Arrivals) (count : ℕ)
    (left : Option (List (List (List ℕ)))) (live : LiveView) (sent : ℕ) (old mid new : Option (List ℕ))
    → Went s records start count left live sent old mid → new ≡ mid → Answered s records start count old new
Answered-same s records start count left live sent old mid new went same =
    record { text = went.text; replies = went.replies; written = rw same went.written }

-- and by one
pub AnsweredInPart-next : (s : Layout) (records : List (List (List ℕ))) (start : Arrivals) (count : ℕ)
    (left : Option (List (List (List ℕ)))) (live : LiveView) (view : RecordsView) (sent total : ℕ)
    (old mid new : Option (List ℕ))
    → Went s records start count left live sent old mid
    → take (count + 1) records ≡ take count records ++ view.fields ∷ []
    → ReplyFails s (arrivals_after s start (take count records)) view.fields sent (Write total) mid new
    → (part : AnsweredInPart s records start total old new) × (part.count ≡ count + 1)
AnsweredInPart-next s records start count left live view sent total old mid new went longer fails =
    let reply : List ℕ = fails.0 in
    let part : ℕ = fails.2.0 in (
      record {
        count = count + 1;
        text = went.text ++ reply;
        replies = rw longer
            (AreReplies-more s start (take count records) view.fields went.text reply went.replies fails.1);
        within = omega (arith, fails.2.1, fails.2.2, went.counted, length-append went.text reply);
        written =
            let same : take total (went.text ++ reply) ≡ went.text ++ take part reply =
            ap (λ n. take n (went.text ++ reply)) (fails.2.2 ∙ ap (λ n. n + part) went.counted)
            ∙ take-past went.text reply part in
            rw same (appends-more old mid new went.text (take part reply) went.written fails.2.3);
      },
      refl,
    )

-- a second part of bytes that failed, after a first that went out
pub WritesNone-second : (line text : List ℕ) (sent before : ℕ) (fault : SessionFault) (old mid new : Option (List ℕ))
    → before ≡ sent + length line → Appends old mid line
    → WritesPart text before fault mid new → WritesNone (line ++ text) sent fault old new
WritesNone-second line text sent before (Write total) old mid new is written fails = (
  length line + fails.0,
  omega (arith, fails.1, length-append line text),
  omega (arith, fails.2, is),
  rw (take-past line text fails.0) (appends-more old mid new line (take fails.0 text) written fails.3),
)
WritesNone-second line text sent before Read old mid new is written fails = absurd fails
WritesNone-second line text sent before (TooMany source) old mid new is written fails = absurd fails
WritesNone-second line text sent before Full old mid new is written fails = absurd fails
WritesNone-second line text sent before (Journal fault) old mid new is written fails = absurd fails

-- a first part that failed
pub WritesNone-first : (line text : List ℕ) (sent : ℕ) (fault : SessionFault) (old new : Option (List ℕ))
    → WritesPart line sent fault old new → WritesNone (line ++ text) sent fault old new
WritesNone-first line text sent (Write total) old new fails = (
  fails.0,
  omega (arith, fails.1, length-append line text),
  fails.2,
  rw (take-append-le fails.0 line text fails.1) fails.3,
)
WritesNone-first line text sent Read old new fails = absurd fails
WritesNone-first line text sent (TooMany source) old new fails = absurd fails
WritesNone-first line text sent Full old new fails = absurd fails
WritesNone-first line text sent (Journal fault) old new fails = absurd fails

-- ---- one record
-- a change was taken that is in the schema's shard, or left alone that isn't
pub TakesChange-read : (source : ℕ) (fields : List (List ℕ)) (what : Result Change LineFault) (old new : LiveView)
    → is_read old.schema fields ≡ true → what ≡ change_in_order old.schema fields
    → TakesNext source what old new → TakesChange source fields old new
TakesChange-read source fields what old new read is takes arrivals stands = rw (read, ← is) (takes arrivals stands)

pub TakesChange-other : (source : ℕ) (fields : List (List ℕ)) (live : LiveView) → is_read live.schema fields ≡ false
    → TakesChange source fields live live
TakesChange-other source fields live other arrivals stands = rw other stands

-- a change has no reply
pub Replied-change : (s : Layout) (arrivals : Arrivals) (fields : List (List ℕ)) (source : ℕ) (after : LiveView)
    (sent : ℕ) (old : Option (List ℕ)) → request.Change source ≡ request_of s fields
    → LiveStandsAt after (arrivals_changed s arrivals source (drop 1 fields))
    → Replied s arrivals fields after sent sent old old
Replied-change s arrivals fields source after sent old asks stands = record {
  writes =
      record { reply = []; is_reply = rw (← asks) refl; written = appends-none old; counted = sym (add-zero sent) };
  stands = rw (← asks) stands;
}

-- after a question the cube stands where it stood
pub Replied-ask : (s : Layout) (arrivals : Arrivals) (fields : List (List ℕ)) (question : Question) (live : LiveView)
    (sent total : ℕ) (old new : Option (List ℕ)) → request.Ask question ≡ request_of s fields
    → LiveStandsAt live arrivals → WritesReply s arrivals (request.Ask question) sent total old new
    → Replied s arrivals fields live sent total old new
Replied-ask s arrivals fields question live sent total old new asks stands writes =
    record { writes = rw (← asks) writes; stands = rw (← asks) stands }

-- and after a record that is wrong
pub Replied-wrong : (s : Layout) (arrivals : Arrivals) (fields : List (List ℕ)) (fault : RequestFault) (live : LiveView)
    (sent total : ℕ) (old new : Option (List ℕ)) → request.Wrong fault ≡ request_of s fields
    → LiveStandsAt live arrivals → WritesReply s arrivals (request.Wrong fault) sent total old new
    → Replied s arrivals fields live sent total old new
Replied-wrong s arrivals fields fault live sent total old new asks stands writes =
    record { writes = rw (← asks) writes; stands = rw (← asks) stands }

-- a reply that broke
pub ReplyFails-breaks : (s : Layout) (arrivals : Arrivals) (fields : List (List ℕ)) (asks : Request) (sent : ℕ)
    (fault : SessionFault) (old new : Option (List ℕ)) → asks ≡ request_of s fields
    → BreaksReply s arrivals asks sent fault old new → ReplyFails s arrivals fields sent fault old new
ReplyFails-breaks s arrivals fields asks sent Read old new is breaks = absurd breaks
ReplyFails-breaks s arrivals fields asks sent (TooMany source) old new is breaks = absurd breaks
ReplyFails-breaks s arrivals fields asks sent Full old new is breaks = breaks
ReplyFails-breaks s arrivals fields asks sent (Write total) old new is breaks = rw (← is) breaks
ReplyFails-breaks s arrivals fields asks sent (Journal fault) old new is breaks = breaks

-- a reply that wasn't written whole
pub BreaksReply-writes : (s : Layout) (arrivals : Arrivals) (asks : Request) (reply : List ℕ) (sent : ℕ)
    (fault : SessionFault) (old new : Option (List ℕ)) → IsReply s arrivals asks reply
    → WritesNone reply sent fault old new → BreaksReply s arrivals asks sent fault old new
BreaksReply-writes s arrivals asks reply sent Full old new is fails = fails
BreaksReply-writes s arrivals asks reply sent (Write total) old new is fails = (reply, is, fails)
BreaksReply-writes s arrivals asks reply sent Read old new is fails = absurd fails
BreaksReply-writes s arrivals asks reply sent (TooMany source) old new is fails = absurd fails
BreaksReply-writes s arrivals asks reply sent (Journal why) old new is fails = absurd fails

-- a change that wasn't taken
pub ReplyFails-change : (s : Layout) (live : LiveView) (arrivals : Arrivals) (fields : List (List ℕ)) (source sent : ℕ)
    (fault : SessionFault) (old : Option (List ℕ)) → live.schema ≡ s → request.Change source ≡ request_of s fields
    → (1 ≤ source) × (source ≤ 64) → LiveStandsAt live arrivals
    → ExplainsChange (is_read s (drop 1 fields)) source live fault → ReplyFails s arrivals fields sent fault old old
ReplyFails-change s live arrivals fields source sent Read old is asks within stands why = absurd why
ReplyFails-change s live arrivals fields source sent (TooMany other) old is asks within stands why =
    let same : other ≡ source = why.0 in
    let last : last_number (of_source arrivals source) ≡ s.max_records =
    sym (stands.numbers source within.0 within.1) ∙ why.2 ∙ ap (λ (l : Layout). l.max_records) is in
    rw same (refl, record { asked = sym asks; read = why.1; last = last })
ReplyFails-change s live arrivals fields source sent Full old is asks within stands why = refl
ReplyFails-change s live arrivals fields source sent (Write total) old is asks within stands why = absurd why
ReplyFails-change s live arrivals fields source sent (Journal fault) old is asks within stands why = refl

-- a journal that doesn't keep a change
pub BreaksReply-journal : (s : Layout) (arrivals : Arrivals) (asks : Request) (sent : ℕ) (fault : SessionFault)
    (old : Option (List ℕ)) → IsJournalFault fault → BreaksReply s arrivals asks sent fault old old
BreaksReply-journal s arrivals asks sent Read old is = absurd is
BreaksReply-journal s arrivals asks sent (TooMany source) old is = absurd is
BreaksReply-journal s arrivals asks sent Full old is = absurd is
BreaksReply-journal s arrivals asks sent (Write total) old is = absurd is
BreaksReply-journal s arrivals asks sent (Journal fault) old is = refl

-- ---- all records
-- how far a session has come, wherever the cube stood when it began, where its records are known
abbrev pub HasGone : Layout → Option (List (List (List ℕ))) → LiveView → Option (List (List (List ℕ))) → LiveView → ℕ
    → Option (List ℕ) → Option (List ℕ) → Type 0
HasGone s first before left live sent old new =
    IfSome first (λ taken. (start : Arrivals) → LiveStandsAt before start
    → (count : ℕ) × Went s taken start count left live sent old new)

pub HasGone-none : (s : Layout) (first : Option (List (List (List ℕ)))) (live : LiveView) (old : Option (List ℕ))
    → HasGone s first live first live 0 old old
HasGone-none s None live old = tt
HasGone-none s (Some taken) live old = λ start stands. (0, Went-none s taken start live old stands)

pub HasGone-more : (s : Layout) (first : Option (List (List (List ℕ)))) (before : LiveView)
    (left : Option (List (List (List ℕ)))) (live after : LiveView) (view : RecordsView) (sent total : ℕ)
    (old mid new : Option (List ℕ))
    → HasGone s first before left live sent old mid → Advances left true view
    → ((arrivals : Arrivals) → LiveStandsAt live arrivals → Replied s arrivals view.fields after sent total mid new)
    → HasGone s first before view.left after total old new
HasGone-more s None before left live after view sent total old mid new gone advances replied = tt
HasGone-more s (Some taken) before left live after view sent total old mid new gone advances replied = λ start stands.
    let went = gone start stands in (
      went.0 + 1,
      Went-more s taken start went.0 left live after view sent total old mid new went.1 advances
          (replied (arrivals_after s start (take went.0 taken)) went.1.stands),
    )

pub HasGone-all : (s : Layout) (first : Option (List (List (List ℕ)))) (before : LiveView)
    (left : Option (List (List (List ℕ)))) (live : LiveView) (view : RecordsView) (sent : ℕ) (old new : Option (List ℕ))
    → HasGone s first before left live sent old new → Advances left false view
    → IfSome first (λ taken. Serves s taken before live old new)
HasGone-all s None before left live view sent old new gone advances = tt
HasGone-all s (Some taken) before left live view sent old new gone advances = λ start stands.
    let went = gone start stands in Went-all s taken start went.0 left live view sent old new went.1 advances

pub HasGone-input : (s : Layout) (first : Option (List (List (List ℕ)))) (before : LiveView)
    (left : Option (List (List (List ℕ)))) (live : LiveView) (sent : ℕ) (fault : SessionFault)
    (old new : Option (List ℕ))
    → HasGone s first before left live sent old new → IsInputFault fault
    → IfSome first (λ taken. ServingFails s taken fault before old new)
HasGone-input s None before left live sent fault old new gone is = tt
HasGone-input s (Some taken) before left live sent fault old new gone is = λ start stands.
    let went = gone start stands in
    LeavesReplies-Answered s taken start went.0 fault old new is
    (Went-Answered s taken start went.0 left live sent old new went.1)

pub HasGone-journal : (s : Layout) (first : Option (List (List (List ℕ)))) (before : LiveView)
    (left : Option (List (List (List ℕ)))) (live : LiveView) (sent : ℕ) (fault : SessionFault)
    (old new : Option (List ℕ))
    → HasGone s first before left live sent old new → IsJournalFault fault
    → IfSome first (λ taken. ServingFails s taken fault before old new)
HasGone-journal s None before left live sent fault old new gone is = tt
HasGone-journal s (Some taken) before left live sent fault old new gone is = λ start stands.
    let went = gone start stands in
    LeavesReplies-journal s taken start went.0 fault old new is
    (Went-Answered s taken start went.0 left live sent old new went.1)

pub HasGone-fails : (s : Layout) (first : Option (List (List (List ℕ)))) (before : LiveView)
    (left : Option (List (List (List ℕ)))) (live : LiveView) (view : RecordsView) (sent : ℕ) (fault : SessionFault)
    (old mid new : Option (List ℕ))
    → HasGone s first before left live sent old mid → Advances left true view
    → ((arrivals : Arrivals) → LiveStandsAt live arrivals → ReplyFails s arrivals view.fields sent fault mid new)
    → IfSome first (λ taken. ServingFails s taken fault before old new)
HasGone-fails s None before left live view sent fault old mid new gone advances fails = tt
HasGone-fails s (Some taken) before left live view sent fault old mid new gone advances fails = λ start stands.
    let went = gone start stands in
    LeavesReplies-ReplyFails s taken start went.0 left live view sent fault old mid new went.1 advances
    (fails (arrivals_after s start (take went.0 taken)) went.1.stands)
