use Rattle.std.proofs.Common.{refl}
use Rattle.cube_core.proofs.RefusalLaws.{refusals_of-more}
use Rattle.cube_laws.proofs.RefusedLaws.{refusal_of-number}
use Rattle.cube_laws.proofs.refusals.refusals_are_those_of_each_item.Goals as goal

pub returns : goal.returns
returns c = record { none = λ s. refl; more = refusals_of-more; number = refusal_of-number }
