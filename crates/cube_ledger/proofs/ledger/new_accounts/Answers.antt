use Rattle.std.proofs.lemmas.List.{replicate-append-replicate}
use Rattle.cube_ledger.specs.Ledger.{new_account}
use Rattle.cube_ledger.proofs.ledger.new_accounts.Goals as goal

pub loop-preserved : goal.loop-preserved
loop-preserved c =
    rw (c.in_ok-push.ensures.items, c.loop.invariant, c.new.ensures)
    (replicate-append-replicate c.loop.counter 1 new_account)
