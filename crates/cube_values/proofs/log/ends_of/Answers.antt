use Rattle.std.proofs.Common.{rules, FitsSigned, w64}
use Rattle.std.proofs.lemmas.Int.{to_z-of_z}
use Rattle.cube_values.proofs.EndLaws.{HasEnds-keys_of}
use Rattle.cube_values.proofs.log.ends_of.Goals as goal

pub returns-in-Some-Some-clause-some : goal.returns-in-Some-Some-clause-some
returns-in-Some-Some-clause-some c =
    let low : FitsSigned w64 c.in-Some-Some.least = search rules in
    let high : FitsSigned w64 c.in-Some-Some.greatest = search rules in
    rw (to_z-of_z w64 c.in-Some-Some.least low, to_z-of_z w64 c.in-Some-Some.greatest high)
    (HasEnds-keys_of c.args.pairs.now c.in-Some-Some.least c.in-Some-Some.greatest c.requires
    c.in-Some-Some.ensures.held c.in-Some-Some.ensures.least c.in-Some-Some.ensures'.held
    c.in-Some-Some.ensures'.greatest)
