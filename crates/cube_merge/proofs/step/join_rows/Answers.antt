use Rattle.std.proofs.Common.{◌≡◌, ap, ◌∙◌, subst}
use Rattle.std.proofs.lemmas.Result.{IfErr-weaker, on_ok_weaker}
use Rattle.cube_merge.specs.Joint.{rows_of}
use Rattle.cube_merge.specs.Made.{AreMadeOfRows}
use Rattle.cube_merge.specs.Merging.{used_rows}
use Rattle.cube_merge.specs.Range.{AreInRange}
use Rattle.cube_merge.proofs.FaultLaws.{FailsToJoin-made}
use Rattle.cube_merge.proofs.step.join_rows.Goals as goal

pub returns-clause-made : goal.returns-clause-made
returns-clause-made g c =
    let found = c.in_ok-find_used.ensures {u = tt} in
    let rows : rows_of c.args.inputs.now c.as_slice.result.now
    ≡ used_rows c.find_used.new.used.items c.args.inputs.now =
    ap (rows_of c.args.inputs.now) c.as_slice.ensures.value ∙ found.rows in
    on_ok_weaker c.make_answers.result
    (λ made. subst (λ rs. AreMadeOfRows c.args.given.now rs c.make_answers.new.made.items) rows made)
    c.make_answers.ensures.made

pub returns-clause-fit : goal.returns-clause-fit
returns-clause-fit g c =
    let found = c.in_ok-find_used.ensures {u = tt} in
    let rows : rows_of c.args.inputs.now c.as_slice.result.now
    ≡ used_rows c.find_used.new.used.items c.args.inputs.now =
    ap (rows_of c.args.inputs.now) c.as_slice.ensures.value ∙ found.rows in
    on_ok_weaker c.make_answers.result (λ fit. subst (AreInRange c.args.given.now) rows fit) c.make_answers.ensures.fit

pub returns-clause-err : goal.returns-clause-err
returns-clause-err g c =
    let found = c.in_ok-find_used.ensures {u = tt} in
    let rows : rows_of c.args.inputs.now c.as_slice.result.now
    ≡ used_rows c.find_used.new.used.items c.args.inputs.now =
    ap (rows_of c.args.inputs.now) c.as_slice.ensures.value ∙ found.rows in
    IfErr-weaker c.make_answers.result _ _
    (λ fault fails. FailsToJoin-made c.args.given.now c.args.inputs.now c.args.key.now c.find_used.new.used.items
    c.as_slice.result.now fault found.long found.uses rows fails) c.make_answers.ensures.err
