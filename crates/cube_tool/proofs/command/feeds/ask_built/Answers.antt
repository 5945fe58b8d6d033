use Rattle.std.proofs.Common.{refl}
use Rattle.std.proofs.lemmas.Result.{err_from_is_err_and}
use Rattle.cube_build.specs.Interest.{StandsWhere}
use Rattle.cube_tool.proofs.AnsweringLaws.{FailsOnTerms-feeding, FailsOnTerms-kept}
use Rattle.cube_tool.proofs.RunLaws.{OfFeeds-where, keeps-built}
use Rattle.cube_tool.proofs.command.feeds.ask_built.Goals as goal

pub returns-in_err-built-clause-err : goal.returns-in_err-built-clause-err
returns-in_err-built-clause-err g c =
    let p = err_from_is_err_and c.from_residual.result c.from_residual.ensures.1 in
    rw (p.1, p.2) (FailsOnTerms-feeding c.args.terms.now c.args.question.now _ _ c.in_err-built.field-0.0 _ _ refl
    c.in_err-built.ensures.err)

pub returns-in_err-status-clause-err : goal.returns-in_err-status-clause-err
returns-in_err-status-clause-err g c =
    let p = err_from_is_err_and c.from_residual-in_err-status.result c.from_residual-in_err-status.ensures.1 in
    let builds = rw c.as_slice-conditions.ensures.value at c.in_ok-built.ensures.ok in
    rw (p.1, p.2) (FailsOnTerms-kept c.args.terms.now c.args.question.now _ _ _
    (keeps-built c.has_builder.ensures builds) c.in_err-status.ensures.err)

pub returns-clause-ok : goal.returns-clause-ok
returns-clause-ok g c =
    let builds = rw c.as_slice-conditions.ensures.value at c.in_ok-built.ensures.ok in
    OfFeeds-where c.args.terms.now (keeps-built c.has_builder.ensures builds)
    (λ n. StandsWhere c.args.schema.now c.args.terms.now.conditions.items n c.args.settings.now.builders
    c.in_ok-built.built) builds.stands c.in_ok-status.ensures.ok

pub returns-clause-asked : goal.returns-clause-asked
returns-clause-asked g c = c.in_ok-status.ensures.ok.asked
