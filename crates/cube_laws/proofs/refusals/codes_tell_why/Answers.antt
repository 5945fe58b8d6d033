use Rattle.cube_laws.proofs.RefusedLaws.{refusal_of-version_1, refusal_of-version_2, refusal_of-WhyRefused}
use Rattle.cube_laws.proofs.refusals.codes_tell_why.Goals as goal

pub returns : goal.returns
returns c =
    record { version_1 = refusal_of-version_1; version_2 = refusal_of-version_2; no_other = refusal_of-WhyRefused }
