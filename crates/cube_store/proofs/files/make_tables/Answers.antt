use Rattle.std.proofs.Common.{◌⊎◌, ◌<◌, ◌^◌, ◌∙◌, arith, subst}
use Rattle.sqlite_pages.specs.PageMap.{PageMap}
use Rattle.sqlite_pool.specs.Opening.{IsBlankFile}
use Rattle.sqlite_pool.specs.Stored.{Recovers}
use Rattle.sqlite_store.specs.Opening.{IsEmptyFile}
use Rattle.sqlite_store.specs.Unopened.{image}
use Rattle.sqlite_trees.proofs.Doubt.{clean_of}
use Rattle.cube_store.specs.declared.form.RowForm.TheVariants.{Chained}
use Rattle.cube_store.proofs.FileLaws as laws
use Rattle.cube_store.proofs.files.make_tables.Goals as goal

pub returns-in-Ok-clause-made : goal.returns-in-Ok-clause-made
returns-in-Ok-clause-made g c = λ clean.
    let first : 0 < 2 ^ 32 = omega arith in
    let second : 1 < 2 ^ 32 = omega arith in
    let e = c.in-Ok.ensures in
    record {
      is_open = e.ready.is_open clean;
      tables = laws.store_tables c.in-Ok.store Chained (e.schema ∙ c.requires.schema) e.ready.unaltered;
      none = (e.empty (clean_of _ clean) 0 first, e.empty (clean_of _ clean) 1 second);
    }

pub returns-in-Ok-clause-started : goal.returns-in-Ok-clause-started
returns-in-Ok-clause-started g c = λ clean.
    let it = image c.args.fresh in
    subst (λ n. ∥ IsBlankFile n it ⊎ ((pages : PageMap) × Recovers n it pages × IsEmptyFile n pages) ∥₁) c.requires.size
    (c.in-Ok.ensures.started (clean_of _ clean))

pub returns-in-Ok-clause-honest : goal.returns-in-Ok-clause-honest
returns-in-Ok-clause-honest g c = λ clean. c.in-Ok.ensures.honest (clean_of _ clean)

pub returns-in-Err-clause-falls : goal.returns-in-Err-clause-falls
returns-in-Err-clause-falls g c = λ clean.
    c.in-Err.ensures.falls (laws.left_is_clean c.in-Err.left c.close.result.log c.close.result.db c.close.ensures clean)

pub returns-in-Ok-clause-form : goal.returns-in-Ok-clause-form
returns-in-Ok-clause-form g c =
    laws.store_form c.in-Ok.store Chained (c.in-Ok.ensures.schema ∙ c.requires.schema) c.in-Ok.ensures.ready.unaltered
