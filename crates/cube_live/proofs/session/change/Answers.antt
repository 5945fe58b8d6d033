use Rattle.std.proofs.Common.{◌≡◌, ◌∙◌, ℕ, true, List, Result, Ok, Err, IfErr, drop, sym}
use Rattle.std.proofs.lemmas.Result.{err_from_is_err_and, on_ok_weaker}
use Rattle.csv.specs.Records.{fields_of}
use Rattle.cube_core.specs.FeedRecords.{is_read}
use Rattle.cube_core.specs.Layout.{Layout}
use Rattle.cube_live.specs.Keeping.{EndsIn, Keeping, KeepsOn, keeping_changed, with_change}
use Rattle.cube_live.specs.declared.session.SessionFault.{SessionFault}
use Rattle.cube_live.proofs.KeepingLaws as keeping
use Rattle.cube_live.proofs.ServingLaws.{TakesChange-read}
use Rattle.cube_live.proofs.session.change.Goals as goal

-- a change that was told is kept, however the call failed then
IfErr-told : {J T : Type 0} (keeps breaks : J → J → Keeping → Type 0) (r : Result T SessionFault) (s : Layout) (old : J)
    (source : ℕ) (fields : List (List ℕ)) (new : J) → is_read s (drop 1 fields) ≡ true
    → KeepsOn keeps keeps old (λ k. with_change k source fields) new
    → IfErr r (λ why. EndsIn keeps breaks why old (λ k. keeping_changed s k source fields) new)
IfErr-told keeps breaks (Ok value) s old source fields new read on = tt
IfErr-told keeps breaks (Err why) s old source fields new read on =
    keeping.EndsIn-taken keeps breaks why old (λ k. keeping_changed s k source fields) new
    (keeping.KeepsOn-read keeps breaks keeps s old source fields new read on)

pub returns-clause-takes : goal.returns-clause-takes
returns-clause-takes g c =
    let read = rw (c.schema.ensures, c.in_ok-put_rest.ensures) at (sym c.is_read.ensures ∙ c.if-not-is_read.false) in
    on_ok_weaker c.apply.result
    (TakesChange-read c.args.source (drop 1 (fields_of c.args.fields.now)) c.in_ok-what.what c.args.live.now
    c.apply.new.live read (rw (c.schema-2.ensures, c.in_ok-put_rest.ensures) at c.in_ok-what.ensures))
    c.apply.ensures.takes

pub returns-clause-kept : goal.returns-clause-kept
returns-clause-kept g c =
    let read = rw (c.schema.ensures, c.in_ok-put_rest.ensures) at (sym c.is_read.ensures ∙ c.if-not-is_read.false) in
    keeping.OnOk-always c.apply.result
    (keeping.KeepsOn-read g.J.Journal.keeps g.J.Journal.breaks g.J.Journal.keeps c.args.live.now.schema
    c.args.journal.now c.args.source (fields_of c.args.fields.now) c.note.new.journal read c.in_ok-note.ensures.kept)

pub returns-in_err-note-clause-err_kept : goal.returns-in_err-note-clause-err_kept
returns-in_err-note-clause-err_kept g c =
    let read = rw (c.schema.ensures, c.in_ok-put_rest.ensures) at (sym c.is_read.ensures ∙ c.if-not-is_read.false) in
    let p = err_from_is_err_and c.from_residual-in_err-note.result c.from_residual-in_err-note.ensures.1 in
    rw (p.1, p.2) (keeping.EndsIn-untold g.J.Journal.keeps g.J.Journal.breaks c.args.live.now.schema
    c.in_err-note.field-0.0 c.args.journal.now c.args.source (fields_of c.args.fields.now) c.note.new.journal
    c.in_err-note.ensures.fault read c.in_err-note.ensures.err_kept)

pub returns-in_err-what-clause-err_kept : goal.returns-in_err-what-clause-err_kept
returns-in_err-what-clause-err_kept g c =
    let read = rw (c.schema.ensures, c.in_ok-put_rest.ensures) at (sym c.is_read.ensures ∙ c.if-not-is_read.false) in
    IfErr-told g.J.Journal.keeps g.J.Journal.breaks c.from_residual-in_err-what.result c.args.live.now.schema
    c.args.journal.now c.args.source (fields_of c.args.fields.now) c.note.new.journal read c.in_ok-note.ensures.kept

pub returns-clause-err_kept : goal.returns-clause-err_kept
returns-clause-err_kept g c =
    let read = rw (c.schema.ensures, c.in_ok-put_rest.ensures) at (sym c.is_read.ensures ∙ c.if-not-is_read.false) in
    IfErr-told g.J.Journal.keeps g.J.Journal.breaks c.apply.result c.args.live.now.schema c.args.journal.now
    c.args.source (fields_of c.args.fields.now) c.note.new.journal read c.in_ok-note.ensures.kept
