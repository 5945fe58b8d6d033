use Rattle.std.proofs.Common.{map}
use Rattle.cube_store.specs.Calls.{IsntReopened}
use Rattle.cube_store.specs.Codes.{IsToldOf}
use Rattle.cube_store.specs.Rows.{entries_of}
use Rattle.cube_store.specs.State.{IsStore, IsUnmade}
use Rattle.cube_store_commands.proofs.AskingLaws as laws
use Rattle.cube_store_commands.proofs.asking.ask_stored.Goals as goal

pub returns-in-Err-clause-written : goal.returns-in-Err-clause-written
returns-in-Err-clause-written g c = rw c.from.ensures
    (λ clean. laws.LeavesOfText-unopened c.args.terms.now c.args.question.now c.args.schema.now
    (map g.R.Read.remaining c.args.feeds.readers.items) (g.S.Store.view c.args.feeds.store)
    c.in-Err.fault (g.W.Write.contents c.args.out.now) c.in-Err.ensures.err)

pub returns-in-Err-clause-unharmed : goal.returns-in-Err-clause-unharmed
returns-in-Err-clause-unharmed g c = λ db may. may

pub returns-in-Ok-answer_over-clause-ok : goal.returns-in-Ok-answer_over-clause-ok
returns-in-Ok-answer_over-clause-ok g c =
    let now = c.in-Ok-resume_made.journal in
    let was = g.S.Store.view c.args.feeds.store in
    rw c.into_store-store.ensures
    (λ clean. laws.OfFeeds-answered c.args.schema.now (map g.R.Read.remaining c.args.feeds.readers.items)
    was c.in-Ok.live c.in-Ok-resume_made.live c.in-Ok.ensures.ok c.in-Ok.ensures.schema (c.in-Ok-resume_made.ensures.taken clean)
    c.args.terms.now c.args.question.now (entries_of c.args.feeds.notes.items) c.in-Ok-answer_over.status
    (g.S.Store.view now.store) (g.S.Store.recovers now.store)
    (g.W.Write.contents c.args.out.now) (g.W.Write.contents c.answer_over.new.out)
    c.in-Ok-answer_over.ensures.ok
    (laws.held-same g.S.Store.view g.S.Store.recovers was
    (entries_of c.args.feeds.notes.items) now c.in-Ok-resume_made.ensures.kept c.in-Ok-resume_made.ensures.stored
    (rw c.deref.ensures.value at c.in-Ok-resume_made.ensures.noted) c.in-Ok-resume_made.ensures.formed clean)
    (laws.leaves-same g.S.Store.view g.S.Store.recovers was
    (entries_of c.args.feeds.notes.items) now c.in-Ok-resume_made.ensures.kept c.in-Ok-resume_made.ensures.stored
    (rw c.deref.ensures.value at c.in-Ok-resume_made.ensures.noted) c.in-Ok-resume_made.ensures.formed clean))

pub returns-in-Ok-resume_made-clause-written : goal.returns-in-Ok-resume_made-clause-written
returns-in-Ok-resume_made-clause-written g c =
    let was = g.S.Store.view c.args.feeds.store in
    rw c.into_store-store.ensures
    (λ clean. laws.LeavesOfText-failed c.args.schema.now (map g.R.Read.remaining c.args.feeds.readers.items)
    was c.in-Ok.live c.in-Ok-resume_made.live c.in-Ok.ensures.ok c.in-Ok.ensures.schema (c.in-Ok-resume_made.ensures.taken clean)
    c.args.terms.now c.args.question.now c.in-Err-answer_over.failure (g.W.Write.contents c.args.out.now)
    (g.W.Write.contents c.answer_over.new.out) c.requires.question c.in-Err-answer_over.ensures.err)

pub returns-in-Ok-answer_over-clause-same : goal.returns-in-Ok-answer_over-clause-same
returns-in-Ok-answer_over-clause-same g c =
    rw c.into_store-store.ensures (λ db may. c.in-Ok-resume_made.ensures.same db may)

pub returns-in-Ok-resume_made-clause-unharmed : goal.returns-in-Ok-resume_made-clause-unharmed
returns-in-Ok-resume_made-clause-unharmed g c =
    rw c.into_store-store.ensures (λ db may. c.in-Ok-resume_made.ensures.same db may)

pub returns-clause-written : goal.returns-clause-written
returns-clause-written g c = rw c.from-in-Err-resume_made.ensures (λ clean.
    laws.LeavesOfText-refused c.args.terms.now c.args.question.now c.args.schema.now
    (map g.R.Read.remaining c.args.feeds.readers.items)
    (g.S.Store.view c.args.feeds.store) c.in-Ok.live c.in-Ok.ensures.ok c.in-Ok.ensures.schema _
    c.in-Err-resume_made.fault (g.W.Write.contents c.args.out.now) (c.in-Err-resume_made.ensures.accepts clean))

pub returns-in-Err-clause-unwritten : goal.returns-in-Err-clause-unwritten
returns-in-Err-clause-unwritten g c = rw c.from.ensures
    (laws.FailsUnwritten-unopened c.in-Err.fault (g.W.Write.contents c.args.out.now))

pub returns-clause-unwritten : goal.returns-clause-unwritten
returns-clause-unwritten g c = rw c.from-in-Err-resume_made.ensures
    (laws.LeavesUnwritten-refused c.in-Err-resume_made.fault (g.W.Write.contents c.args.out.now))

pub returns-clause-cause : goal.returns-clause-cause
returns-clause-cause g c = rw c.from-in-Err-resume_made.ensures (λ clean.
    laws.IfStoreRefused-untaken
    (IsToldOf (IsntReopened g.S.Store c.args.feeds.store c.in-Err-resume_made.store
    (entries_of c.args.feeds.notes.items)))
    c.in-Err-resume_made.fault (rw c.deref.ensures.value at (c.in-Err-resume_made.ensures.cause clean)))

pub returns-clause-accepts : goal.returns-clause-accepts
returns-clause-accepts g c = rw c.from-in-Err-resume_made.ensures (λ clean may.
    laws.IfStoreRefused-explains c.in-Ok.live (g.S.Store.view c.args.feeds.store)
    (IsStore (g.S.Store.view c.args.feeds.store) (entries_of c.args.feeds.notes.items)
    × (¬ IsUnmade (g.S.Store.view c.args.feeds.store)))
    c.in-Err-resume_made.fault
    ((rw c.deref.ensures.value at c.in-Err-resume_made.ensures.accepts) clean) may)
