use Rattle.cube_ledger.proofs.book.Book.keep.Goals as goal

pub invariant_of-self : goal.invariant_of-self
invariant_of-self c = c.keep_of_interest.ensures.each_once
