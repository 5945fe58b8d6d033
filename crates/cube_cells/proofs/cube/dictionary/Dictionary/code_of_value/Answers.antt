use Rattle.std.proofs.Common.{subst}
use Rattle.cube_cells.specs.Codes.{IsDictionary}
use Rattle.cube_cells.proofs.Codes.DictionaryLaws.{code_of_null}
use Rattle.cube_cells.proofs.cube.dictionary.Dictionary.code_of_value.Goals as goal

pub returns-in-None : goal.returns-in-None
returns-in-None c =
    rw c.in-None.is (code_of_null c.args.self.now (subst IsDictionary c.self.view_is c.self.invariant))
