use Rattle.std.proofs.Common.{◌≡◌, ◌++◌, List, length}
use Rattle.cube_core.specs.declared.change.Item.{Item}
use Rattle.cube_ledger.specs.Ledger.{AccountStandsAt, account_of}
use Rattle.cube_build.proofs.shard_ledger.enter_all.Given as goal

abbrev pub invariant-loop-item : goal.invariant-loop-item
invariant-loop-item l =
    (l.ledger.schema ≡ l.initial.ledger.schema)
    × (length l.ledger.accounts ≡ 1)
    × ((done : List Item) → AccountStandsAt l.initial.ledger.schema done (account_of l.initial.ledger 1)
    → AccountStandsAt l.initial.ledger.schema (done ++ l.yielded) (account_of l.ledger 1))
    × (l.yielded ++ l.item-iterator.rest.items ≡ l.fn.items.items)
