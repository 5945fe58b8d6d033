use Rattle.std.proofs.lemmas.Str.{IsUtf8-from_ascii}
use Rattle.cube_core.proofs.dimension_values.span_of.Goals as goal

pub returns-clause-lies : goal.returns-clause-lies
returns-clause-lies c = λ ascii. (c.requires.0, c.requires.1, IsUtf8-from_ascii _ ascii)
