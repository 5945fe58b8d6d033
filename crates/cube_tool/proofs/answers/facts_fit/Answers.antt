use Rattle.std.proofs.Common.{subst}
use Rattle.cube_ledger.specs.Ledger.{AllFit, LedgerView, all_facts}
use Rattle.cube_tool.proofs.answers.facts_fit.Goals as goal

pub returns : goal.returns
returns c =
    subst (λ (l : LedgerView). AllFit l.schema (all_facts l.accounts)) c.first_builder.ensures c.cube-cube.ensures.fit
