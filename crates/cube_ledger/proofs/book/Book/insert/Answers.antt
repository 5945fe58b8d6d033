use Rattle.std.proofs.Common.{rules}
use Rattle.cube_ledger.proofs.BookLaws.{Makes-insert}
use Rattle.cube_ledger.proofs.book.Book.insert.Goals as goal
use Rattle.cube_ledger.proofs.book.Book.insert.Goals.{in-Ok-true, in-Ok-false, in-Err}

pub returns-clause-made : goal.returns-clause-made
returns-clause-made c = elim c.match-put_new.branch [
  | in-Ok-true w ↦ rw (w.result-is, ← c.self.view_is) (Makes-insert _ _ _ _ (w.in-Ok-true.ensures.put (search rules)))
  | in-Ok-false w ↦ rw w.result-is tt
  | in-Err w ↦ rw w.result-is tt
]
