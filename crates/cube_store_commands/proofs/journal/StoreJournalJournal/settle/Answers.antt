use Rattle.std.proofs.Common.{subst}
use Rattle.std.proofs.lemmas.List.{length-map}
use Rattle.cube_store.specs.Keeping.{HasKept}
use Rattle.cube_store_commands.specs.Records.{stored_all, stored_as}
use Rattle.cube_store_commands.proofs.journal.StoreJournalJournal.settle.Goals as goal
use Rattle.cube_store_commands.proofs.journal.StoreJournalJournal.settle.Goals.{in-Ok, in-Err}

pub returns-clause-ok : goal.returns-clause-ok
returns-clause-ok g c = elim c.match-settle.branch [
  | in-Ok w ↦
      rw (w.result-is, ← c.self.view_is) (λ first k kept.
      subst (λ n. HasKept g.S.Store.view g.S.Store.recovers first c.settle.new.self (stored_all k.told) n)
      (length-map k.told stored_as) (w.in-Ok.ensures.kept first (stored_all k.told) k.sure kept))
  | in-Err w ↦ rw w.result-is tt
]

pub returns-clause-still : goal.returns-clause-still
returns-clause-still g c = elim c.match-settle.branch [
  | in-Ok w ↦
      rw (w.result-is, ← c.self.view_is)
      (λ first k kept. w.in-Ok.ensures.still first (stored_all k.told) k.sure kept)
  | in-Err w ↦ rw w.result-is tt
]
