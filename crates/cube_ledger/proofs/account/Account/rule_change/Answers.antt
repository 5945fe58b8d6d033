use Rattle.std.proofs.lemmas.Result.{IfOk-weaker}
use Rattle.cube_ledger.proofs.FitLaws.{AmendsAlike-takes, RulingFits-ComesTo}
use Rattle.cube_ledger.proofs.account.Account.rule_change.Goals as goal

pub settle-requires-clause-alike : goal.settle-requires-clause-alike
settle-requires-clause-alike c = AmendsAlike-takes c.args.schema.now _ _ c.requires.taken c.requires.all_fit

pub returns-clause-fits : goal.returns-clause-fits
returns-clause-fits c =
    IfOk-weaker c.settle.result _ _
    (RulingFits-ComesTo c.args.schema.now _ c.args.change c.requires.taken c.requires.all_fit)
    c.settle.ensures.settles
