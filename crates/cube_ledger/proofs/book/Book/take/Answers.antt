use Rattle.cube_ledger.proofs.BookLaws.{Replaces-remove}
use Rattle.cube_ledger.proofs.book.Book.take.Goals as goal

pub returns-clause-taken : goal.returns-clause-taken
returns-clause-taken c = rw (← c.self.view_is) (Replaces-remove _ _ _ _ c.remove.ensures.value
    c.remove.ensures.updates.0 c.remove.ensures.entries c.remove.ensures.unique)
