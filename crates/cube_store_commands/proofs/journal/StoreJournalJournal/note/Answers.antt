use Rattle.std.proofs.Common.{◌∙◌, [], ◌∷◌, ◌++◌, subst, sym, ap}
use Rattle.csv.specs.Records.{fields_of}
use Rattle.cube_store.specs.Keeping.{HasKept}
use Rattle.cube_store_commands.specs.Records.{stored_all}
use Rattle.cube_store_commands.proofs.KeepingLaws.{stored_all-more}
use Rattle.cube_store_commands.proofs.journal.StoreJournalJournal.note.Goals as goal

pub returns-in-Ok-append-clause-ok : goal.returns-in-Ok-append-clause-ok
returns-in-Ok-append-clause-ok g c = rw (← c.self.view_is) (λ first k kept.
    subst (λ es. HasKept g.S.Store.view g.S.Store.recovers first c.append.new.self es k.sure)
    (ap (λ t. stored_all k.told ++ (c.args.source, t) ∷ []) (c.as_slice.ensures.value ∙ c.in-Ok.ensures.text)
    ∙ sym (stored_all-more k.told c.args.source (fields_of c.args.fields.now)))
    (c.in-Ok-append.ensures.kept first (stored_all k.told) k.sure kept))
