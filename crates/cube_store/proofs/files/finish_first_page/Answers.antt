use Rattle.std.proofs.Common.{◌∙◌, inl, inr, sym, subst, true≢false}
use Rattle.std.proofs.Math.Logic.{∥∥₁_map}
use Rattle.std.proofs.lemmas.Result.{IfOk-weaker, IfErr-weaker}
use Rattle.sqlite_pool.specs.Opening.{IsBlankFile}
use Rattle.cube_store.specs.Found.{HasNoTable}
use Rattle.cube_store.proofs.FileLaws as laws
use Rattle.cube_store.proofs.files.finish_first_page.Goals as goal

pub returns-in-Ok-false-clause-started : goal.returns-in-Ok-false-clause-started
returns-in-Ok-false-clause-started g c =
    let now = c.hold_none.new.files in
    let was = c.args.files in
    let same = laws.same_seen now.log now.db was.log was.db c.hold_none.ensures.log c.hold_none.ensures.db in
    laws.ok_both c.finish.result _ _ _ (λ it honest started clean.
    ∥∥₁_map (started clean) (λ either. elim either [
      | inl blank ↦
          absurd (true≢false (sym ((c.in-Ok-false.ensures.ok (honest clean)).1 (subst (IsBlankFile 4096) same blank))
          ∙ c.in-Ok-false.field-0-test))
      | inr none ↦ subst HasNoTable same none
    ])) c.finish.ensures.honest c.finish.ensures.started

pub returns-in-Ok-false-clause-honest : goal.returns-in-Ok-false-clause-honest
returns-in-Ok-false-clause-honest g c =
    let now = c.hold_none.new.files in
    let was = c.args.files in
    IfOk-weaker c.finish.result _ _ (λ it honest clean. laws.was_clean now.log now.db was.log was.db
    c.hold_none.ensures.log c.hold_none.ensures.db (honest clean)) c.finish.ensures.honest

pub returns-in-Ok-false-clause-falls : goal.returns-in-Ok-false-clause-falls
returns-in-Ok-false-clause-falls g c =
    let now = c.hold_none.new.files in
    let was = c.args.files in
    IfErr-weaker c.finish.result _ _ (λ e falls clean. laws.was_clean now.log now.db was.log was.db
    c.hold_none.ensures.log c.hold_none.ensures.db (falls clean)) c.finish.ensures.falls
