use Rattle.std.proofs.Common.{arith, rules}
use Rattle.cube_build.proofs.PartLaws.{first-is}
use Rattle.cube_build.proofs.built.Built.schema.Goals as goal

pub returns : goal.returns
returns c =
    let some = c.builders.ensures.parts.some in
    let first = first-is c.builders.result.now c.index-builders-0.result (omega arith) in
    search rules
