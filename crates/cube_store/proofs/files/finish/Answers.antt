use Rattle.std.proofs.Common.{◌⊎◌, subst}
use Rattle.std.proofs.lemmas.Result.{IfOk-weaker, IfErr-weaker}
use Rattle.sqlite_pool.specs.Opening.{IsBlankFile}
use Rattle.cube_store.specs.Found.{HasNoTable}
use Rattle.cube_store.proofs.FileLaws as laws
use Rattle.cube_store.proofs.files.finish.Goals as goal

pub returns-in-Ok-clause-started : goal.returns-in-Ok-clause-started
returns-in-Ok-clause-started g c =
    IfOk-weaker c.make_tables.result _ _ (λ it started clean.
    subst (λ i. ∥ IsBlankFile 4096 i ⊎ HasNoTable i ∥₁)
    (laws.image_is c.in-Ok.fresh c.args.files.log c.args.files.db c.in-Ok.ensures.files) (started clean))
    c.make_tables.ensures.started

pub returns-in-Ok-clause-honest : goal.returns-in-Ok-clause-honest
returns-in-Ok-clause-honest g c =
    IfOk-weaker c.make_tables.result _ _ (λ it honest clean.
    laws.files_are_clean c.in-Ok.fresh c.args.files.log c.args.files.db c.in-Ok.ensures.files (honest clean))
    c.make_tables.ensures.honest

pub returns-in-Ok-clause-falls : goal.returns-in-Ok-clause-falls
returns-in-Ok-clause-falls g c =
    IfErr-weaker c.make_tables.result _ _ (λ e falls clean.
    laws.files_are_clean c.in-Ok.fresh c.args.files.log c.args.files.db c.in-Ok.ensures.files (falls clean))
    c.make_tables.ensures.falls
