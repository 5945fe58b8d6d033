use Rattle.std.proofs.lemmas.Result.{on_ok_weaker}
use Rattle.cube_ledger.proofs.StandLaws.{LedgerStandsAt-Enters}
use Rattle.cube_ledger.proofs.ledger.Ledger.apply_fed.Goals as goal

pub returns-clause-stands : goal.returns-clause-stands
returns-clause-stands c =
    on_ok_weaker c.enter.result
    (λ at. LedgerStandsAt-Enters _ _ c.args.source c.args.item c.requires.first c.requires.last at)
    (rw c.into_item.ensures.item at c.enter.ensures.enters)
