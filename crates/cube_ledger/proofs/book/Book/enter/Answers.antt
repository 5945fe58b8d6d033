use Rattle.std.proofs.Common.{rules}
use Rattle.cube_ledger.proofs.book.Book.enter.Goals as goal

pub returns-in-Update-clause-made : goal.returns-in-Update-clause-made
returns-in-Update-clause-made c = search rules

pub returns-in-Update-clause-refused : goal.returns-in-Update-clause-refused
returns-in-Update-clause-refused c = search rules

pub returns-in-Amend-clause-made : goal.returns-in-Amend-clause-made
returns-in-Amend-clause-made c = search rules
