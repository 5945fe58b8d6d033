use Rattle.std.proofs.Common.{◌∙◌}
use Rattle.std.proofs.lemmas.Result.{IfOk-weaker}
use Rattle.cube_store.proofs.FileLaws as laws
use Rattle.cube_store.proofs.starting.next_open.Goals as goal

pub returns-clause-accepts : goal.returns-clause-accepts
returns-clause-accepts g c =
    IfOk-weaker c.is_over.result _ _ (λ same over yes left may.
    let h = over.0 yes in
    laws.leaves_store c.args.journal.now.store _ left (h.0 ∙ c.page_size.ensures) (h.1 ∙ c.schema.ensures) h.2 may)
    (rw c.store-store.ensures.value at c.is_over.ensures)

pub returns-clause-found : goal.returns-clause-found
returns-clause-found g c =
    IfOk-weaker c.is_over.result _ _ (λ same over yes left may v is.
    let h = over.0 yes in
    laws.found_again c.args.journal.now.store _ left (h.0 ∙ c.page_size.ensures) (h.1 ∙ c.schema.ensures) h.2 may v is)
    (rw c.store-store.ensures.value at c.is_over.ensures)
