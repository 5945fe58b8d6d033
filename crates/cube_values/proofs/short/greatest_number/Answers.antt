use Rattle.std.proofs.Common.{arith}
use Rattle.std.proofs.lemmas.Grind.{common_steps, elements, pieces}
use Rattle.cube_values.proofs.short.greatest_number.Goals as goal

pub returns-clause-none : goal.returns-clause-none
returns-clause-none c = grind (arith, common_steps)

pub returns-clause-held : goal.returns-clause-held
returns-clause-held c = grind (arith, elements)

pub returns-clause-greatest : goal.returns-clause-greatest
returns-clause-greatest c = search (pieces, arith)
