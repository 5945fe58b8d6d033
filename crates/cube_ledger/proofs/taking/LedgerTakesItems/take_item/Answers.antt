use Rattle.std.proofs.lemmas.Result.{on_err_weaker}
use Rattle.cube_ledger.proofs.TakingLaws.{ledger-further, ledger-same}
use Rattle.cube_ledger.proofs.taking.LedgerTakesItems.take_item.Goals as goal

pub returns-clause-stands : goal.returns-clause-stands
returns-clause-stands c =
    ledger-further c.apply_fed.result c.args.self.now c.apply_fed.new.self c.args.source c.args.item c.apply_fed.ensures.enters
    c.apply_fed.ensures.stands

pub returns-clause-unchanged : goal.returns-clause-unchanged
returns-clause-unchanged c =
    on_err_weaker c.apply_fed.result (λ same. ledger-same c.args.self.now c.apply_fed.new.self same) c.apply_fed.ensures.err
