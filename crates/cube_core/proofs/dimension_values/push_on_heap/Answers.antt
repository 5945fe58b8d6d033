use Rattle.std.proofs.Common.{rules}
use Rattle.cube_core.proofs.dimension_values.push_on_heap.Goals as goal

pub returns-in-Long-clause-added : goal.returns-in-Long-clause-added
returns-in-Long-clause-added c = search rules

pub returns-in-Long-clause-kept : goal.returns-in-Long-clause-kept
returns-in-Long-clause-kept c = search rules

pub returns-in_ok-moved-in-Short : goal.returns-in_ok-moved-in-Short
returns-in_ok-moved-in-Short c = search rules

pub returns-in_err-moved-in-Short : goal.returns-in_err-moved-in-Short
returns-in_err-moved-in-Short c = search rules
