use Rattle.std.proofs.Common.{◌∙◌, sym, subst, ap}
use Rattle.sqlite_trees.specs.View.{IsClean}
use Rattle.cube_store.specs.State.{stored_in, noted_in, form_in}
use Rattle.cube_store_commands.proofs.ReplayLaws as replays
use Rattle.cube_store_commands.proofs.session.resume_made.Goals as goal

pub returns-in-None-clause-taken : goal.returns-in-None-clause-taken
returns-in-None-clause-taken g c = λ clean.
    let view = g.S.Store.view in
    let fine : IsClean (view c.in-Ok.journal.store) = subst (λ s. IsClean (view s)) c.new.ensures.store clean in
    let found = c.in-Ok.ensures.found fine in
    replays.resumed c.args.live (view c.args.store) (view c.in-Ok.journal.store) c.new-replay.result c.start_made.new.sink
    c.new-replay.ensures.live c.new-replay.ensures.over found.0.stored (c.in-Ok.ensures.taken fine)
    c.into_live.result (sym c.over.ensures ∙ c.in-None.is) c.into_live.ensures

pub returns-in-None-clause-stored : goal.returns-in-None-clause-stored
returns-in-None-clause-stored g c = λ clean.
    let view = g.S.Store.view in
    let fine : IsClean (view c.in-Ok.journal.store) = subst (λ s. IsClean (view s)) c.new.ensures.store clean in
    let found = c.in-Ok.ensures.found fine in
    ap (λ s. stored_in (view s)) c.new.ensures.store ∙ found.0.stored

pub returns-in-None-clause-noted : goal.returns-in-None-clause-noted
returns-in-None-clause-noted g c = λ clean.
    let view = g.S.Store.view in
    let fine : IsClean (view c.in-Ok.journal.store) = subst (λ s. IsClean (view s)) c.new.ensures.store clean in
    let found = c.in-Ok.ensures.found fine in
    ap (λ s. noted_in (view s)) c.new.ensures.store ∙ found.0.noted ∙ found.1

pub returns-in-None-clause-formed : goal.returns-in-None-clause-formed
returns-in-None-clause-formed g c = λ clean.
    let view = g.S.Store.view in
    let fine : IsClean (view c.in-Ok.journal.store) = subst (λ s. IsClean (view s)) c.new.ensures.store clean in
    let found = c.in-Ok.ensures.found fine in
    ap (λ s. form_in (view s)) c.new.ensures.store ∙ found.0.form

pub returns-in-None-clause-kept : goal.returns-in-None-clause-kept
returns-in-None-clause-kept g c = c.new.ensures.kept (λ clean.
    let view = g.S.Store.view in
    let found = c.in-Ok.ensures.found clean in
    (found.0.is_open, found.0.held ∙ sym found.0.stored))

pub returns-in-None-clause-same : goal.returns-in-None-clause-same
returns-in-None-clause-same g c = rw c.new.ensures.store c.in-Ok.ensures.crash

pub returns-in-Ok-clause-accepts : goal.returns-in-Ok-clause-accepts
returns-in-Ok-clause-accepts g c = λ clean.
    let view = g.S.Store.view in
    let fine : IsClean (view c.in-Ok.journal.store) = subst (λ s. IsClean (view s)) c.into_store.ensures.value clean in
    let found = c.in-Ok.ensures.found fine in
    replays.too-many c.args.live (view c.args.store) (view c.in-Ok.journal.store) c.new-replay.result c.start_made.new.sink
    c.new-replay.ensures.live c.new-replay.ensures.over found.0.stored (c.in-Ok.ensures.taken fine)
    c.in-Some.source (sym c.over.ensures ∙ c.in-Some.is)
