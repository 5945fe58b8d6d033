use Rattle.std.proofs.Common.{rules}
use Rattle.cube_merge.proofs.source.source_of.Goals as goal

pub returns-in_ok-place_of-in-Avg-2-clause-some : goal.returns-in_ok-place_of-in-Avg-2-clause-some
returns-in_ok-place_of-in-Avg-2-clause-some c = search rules

pub returns-in_err-place_of-in-Avg-2-clause-none : goal.returns-in_err-place_of-in-Avg-2-clause-none
returns-in_err-place_of-in-Avg-2-clause-none c = search rules

pub returns-in_err-place_of-in-Avg-clause-none : goal.returns-in_err-place_of-in-Avg-clause-none
returns-in_err-place_of-in-Avg-clause-none c = search rules
