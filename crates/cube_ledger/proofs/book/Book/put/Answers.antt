use Rattle.cube_ledger.proofs.BookLaws.{Replaces-insert}
use Rattle.cube_ledger.proofs.book.Book.put.Goals as goal
use Rattle.cube_ledger.proofs.book.Book.put.Goals.{in-Ok, in-Err}

pub returns-clause-put : goal.returns-clause-put
returns-clause-put c = elim c.match-insert.branch [
  | in-Ok w ↦ rw (w.result-is, ← c.self.view_is) (Replaces-insert _ _ _ _ _ w.in-Ok.ensures.old
      w.in-Ok.ensures.updates.0 w.in-Ok.ensures.entries w.in-Ok.ensures.unique)
  | in-Err w ↦ rw w.result-is tt
]
