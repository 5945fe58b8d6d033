use Rattle.std.proofs.Common.{ap, ◌∙◌, subst, rules}
use Rattle.sqlite_store.specs.FileStore.{view}
use Rattle.sqlite_store.specs.declared.store.FileStore.{FileStore}
use Rattle.cube_store.specs.Closing.{IsUnharmed}
use Rattle.cube_store.proofs.ClosingLaws as laws
use Rattle.cube_store.proofs.starting.copy_log.Goals as goal

pub returns-in-Ok-clause-copied : goal.returns-in-Ok-clause-copied
returns-in-Ok-clause-copied g c = λ clean.
    let is_open = c.in-Ok.ensures.open clean in
    laws.is-copied c.checkpoint.new.self g.met.D.Disk.seen_may_stay is_open c.args.journal.store
    (c.checkpoint.ensures.same is_open ∙ ap view c.into_store-store.ensures.value) c.into_store-store.ensures.can_open

pub returns-in-Err-clause-unharmed : goal.returns-in-Err-clause-unharmed
returns-in-Err-clause-unharmed g c =
    subst (λ (was : FileStore g.row.D.Denot g.D.Disk). IsUnharmed was c.checkpoint.new.self c.from.result)
    c.into_store-store.ensures.value (record {
      crash = c.checkpoint.ensures.quiet.outcomes;
      cause = λ clean. (c.in-Err.error, c.from.ensures, c.in-Err.ensures.cause clean);
    })

pub returns-in-Ok-clause-emptied : goal.returns-in-Ok-clause-emptied
returns-in-Ok-clause-emptied g c = search (rules, c.into_store-store.ensures.value)
