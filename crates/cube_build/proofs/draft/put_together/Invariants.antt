use Rattle.std.proofs.Common.{◌≡◌, ◌≤◌, ◌+◌, ◌++◌, flat_map, length, sum_by}
use Rattle.cube_build.proofs.ShareLaws.{sources_of, AreOfSchema}
use Rattle.cube_build.proofs.draft.put_together.Given as goal

abbrev pub invariant-loop-ledger : goal.invariant-loop-ledger
invariant-loop-ledger l =
    (l.whole.schema ≡ l.schema)
    × (l.whole.accounts ≡ flat_map (λ ledger. ledger.accounts) l.yielded)
    × AreOfSchema l.schema l.ledger-iterator.rest.items
    × (length l.whole.accounts + sum_by sources_of l.ledger-iterator.rest.items ≤ 64)
    × (l.yielded ++ l.ledger-iterator.rest.items ≡ l.fn.ledgers.items)
