use Rattle.std.proofs.Common.{◌≡◌, ◌∙◌, ◌++◌, ap, map, refl, subst, sym, true}
use Rattle.std.specs.List.{AllZip, list_all}
use Rattle.std.proofs.lemmas.Bool.{both_ways}
use Rattle.std.proofs.lemmas.Result.{IfErr-weaker, err_from_is_err_and, on_ok_weaker}
use Rattle.cube_core.specs.Text.{header_fields, line}
use Rattle.cube_merge.specs.Faults.{FailsToOpenAll}
use Rattle.cube_merge.specs.Merging.{TookHeader}
use Rattle.cube_merge.specs.Source.{can_be_made}
use Rattle.cube_merge.proofs.CubesLaws.{IsMergeOf-ends}
use Rattle.cube_merge.proofs.FaultLaws.{FailsToMerge-inputs, FailsToMerge-open}
use Rattle.cube_merge.proofs.LackLaws.{tells-inputs, tells-open}
use Rattle.cube_merge.proofs.cubes.merge.Goals as goal

pub merge_inputs-requires : goal.merge_inputs-requires
merge_inputs-requires g c =
    let some = rw (c.aggregates-3.ensures.value, c.aggregates-4.ensures.value) at c.in_ok-sources.ensures.some in
    rw c.as_slice-2.ensures.value (rw c.in-Some.is at some)

pub returns-clause-ok : goal.returns-clause-ok
returns-clause-ok g c =
    let first = line (header_fields c.args.given.now) in
    let header : c.as_slice.result.now ≡ first =
    c.as_slice.ensures.value ∙ c.in_ok-push_header.ensures {u = tt} ∙ ap (λ t. t ++ first) c.new-header.ensures.items in
    let taken = subst (λ h. AllZip (TookHeader g.R.Read.remaining h) c.args.readers.items c.in_ok-inputs.inputs.items)
    header c.in_ok-inputs.ensures.ok in
    on_ok_weaker c.merge_inputs.result (λ merges.
    IsMergeOf-ends g.R.Read.remaining c.args.given.now c.args.wanted.now c.args.readers.items
    c.in_ok-inputs.inputs.items (g.W.Write.contents c.args.w.now) (g.W.Write.contents c.merge_inputs.new.w) taken
    (rw c.as_mut_slice.ensures.value at merges)) c.merge_inputs.ensures.ok

pub returns-clause-err : goal.returns-clause-err
returns-clause-err g c =
    let first = line (header_fields c.args.given.now) in
    let header : c.as_slice.result.now ≡ first =
    c.as_slice.ensures.value ∙ c.in_ok-push_header.ensures {u = tt} ∙ ap (λ t. t ++ first) c.new-header.ensures.items in
    let taken = subst (λ h. AllZip (TookHeader g.R.Read.remaining h) c.args.readers.items c.in_ok-inputs.inputs.items)
    header c.in_ok-inputs.ensures.ok in
    IfErr-weaker c.merge_inputs.result _ _ (λ fault fails. FailsToMerge-inputs g.R.Read.remaining c.args.given.now
    c.args.wanted.now c.args.readers.items c.in_ok-inputs.inputs.items taken _ _ fault
    (rw c.as_mut_slice.ensures.value at fails)) c.merge_inputs.ensures.err

pub returns-in_err-inputs-clause-err : goal.returns-in_err-inputs-clause-err
returns-in_err-inputs-clause-err g c =
    let first = line (header_fields c.args.given.now) in
    let header : c.as_slice.result.now ≡ first =
    c.as_slice.ensures.value ∙ c.in_ok-push_header.ensures {u = tt} ∙ ap (λ t. t ++ first) c.new-header.ensures.items in
    let p = err_from_is_err_and c.from_residual-in_err-inputs.result c.from_residual-in_err-inputs.ensures.1 in
    rw (p.1, p.2) (FailsToMerge-open g.R.Read.remaining c.args.given.now
    c.args.wanted.now c.args.readers.items c.in_err-inputs.field-0.0 _ _ refl
    (subst (λ h. FailsToOpenAll h (map g.R.Read.remaining c.args.readers.items) c.in_err-inputs.field-0.0)
    header c.in_err-inputs.ensures.err))

pub returns-clause-lacks : goal.returns-clause-lacks
returns-clause-lacks g c =
    let first = line (header_fields c.args.given.now) in
    let header : c.as_slice.result.now ≡ first =
    c.as_slice.ensures.value ∙ c.in_ok-push_header.ensures {u = tt} ∙ ap (λ t. t ++ first) c.new-header.ensures.items in
    let taken = subst (λ h. AllZip (TookHeader g.R.Read.remaining h) c.args.readers.items c.in_ok-inputs.inputs.items)
    header c.in_ok-inputs.ensures.ok in
    IfErr-weaker c.merge_inputs.result _ _ (λ fault fails.
    tells-inputs g.R.Read.remaining c.args.given.now c.args.wanted.now c.args.readers.items c.in_ok-inputs.inputs.items
    taken _ _ c.args.given.now.aggregates c.args.wanted.now.aggregates fault
    (rw c.as_mut_slice.ensures.value at fails)) c.merge_inputs.ensures.err

pub returns-in_err-inputs-clause-lacks : goal.returns-in_err-inputs-clause-lacks
returns-in_err-inputs-clause-lacks g c =
    let p = err_from_is_err_and c.from_residual-in_err-inputs.result c.from_residual-in_err-inputs.ensures.1 in
    rw (p.1, p.2) (tells-open _ _ c.args.given.now.aggregates c.args.wanted.now.aggregates c.in_err-inputs.field-0.0
    c.in_err-inputs.ensures.err)

pub returns-in_err-sources-clause-refused : goal.returns-in_err-sources-clause-refused
returns-in_err-sources-clause-refused g c =
    let can : list_all (can_be_made c.args.given.now.aggregates) c.args.wanted.now.aggregates ≡ true =
    rw (c.aggregates.ensures.value, c.aggregates-2.ensures.value) at (sym c.can_all_be_made.ensures
    ∙ c.if-not-can_all_be_made.false) in
    λ lack. absurd (both_ways _ lack can)

pub returns-in_err-push_header-clause-refused : goal.returns-in_err-push_header-clause-refused
returns-in_err-push_header-clause-refused g c =
    let can : list_all (can_be_made c.args.given.now.aggregates) c.args.wanted.now.aggregates ≡ true =
    rw (c.aggregates.ensures.value, c.aggregates-2.ensures.value) at (sym c.can_all_be_made.ensures
    ∙ c.if-not-can_all_be_made.false) in
    λ lack. absurd (both_ways _ lack can)

pub returns-in_err-inputs-clause-refused : goal.returns-in_err-inputs-clause-refused
returns-in_err-inputs-clause-refused g c =
    let can : list_all (can_be_made c.args.given.now.aggregates) c.args.wanted.now.aggregates ≡ true =
    rw (c.aggregates.ensures.value, c.aggregates-2.ensures.value) at (sym c.can_all_be_made.ensures
    ∙ c.if-not-can_all_be_made.false) in
    λ lack. absurd (both_ways _ lack can)

pub returns-clause-refused : goal.returns-clause-refused
returns-clause-refused g c =
    let can : list_all (can_be_made c.args.given.now.aggregates) c.args.wanted.now.aggregates ≡ true =
    rw (c.aggregates.ensures.value, c.aggregates-2.ensures.value) at (sym c.can_all_be_made.ensures
    ∙ c.if-not-can_all_be_made.false) in
    λ lack. absurd (both_ways _ lack can)
