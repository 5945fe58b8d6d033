use Rattle.std.proofs.Common.{rules}
use Rattle.std.proofs.lemmas.Map.Made.{filter_same_pairs}
use Rattle.cube_core.specs.Conditions.{hold}
use Rattle.cube_ledger.proofs.book.keep_of_interest.Goals as goal

pub returns-clause-kept : goal.returns-clause-kept
returns-clause-kept c = filter_same_pairs _ (λ entry. hold c.args.conditions.now entry.1) _
    (λ k v b w f' call. search rules) _ _ c.retain.ensures.filtered

pub returns-clause-each_once : goal.returns-clause-each_once
returns-clause-each_once c = c.retain.ensures.unique
