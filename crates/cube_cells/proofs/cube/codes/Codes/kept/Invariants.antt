use Rattle.std.proofs.Common.{◌≡◌, ◌++◌, take, drop}
use Rattle.cube_cells.specs.Codes.{kept_codes}
use Rattle.cube_cells.proofs.cube.codes.Codes.kept.Given as goal

abbrev pub invariant-loop-code : goal.invariant-loop-code
invariant-loop-code l =
    take l.code-index l.code-items ++ kept_codes l.rest (drop l.code-index l.code-items) ≡ kept_codes l.set l.self.codes
