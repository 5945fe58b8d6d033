use Rattle.std.proofs.Common.{◌≡◌, ◌<◌, ◌∙◌, arith, length, sym, ap, subst, Some, true, is_lt}
use Rattle.cube_core.specs.Order.{key_cmp}
use Rattle.cube_merge.specs.Front.{IsLeastIn}
use Rattle.cube_merge.proofs.LeastLaws.{at_place, IsLeastIn-behind, IsLeastIn-none, IsLeastIn-first, IsLeastIn-new}
use Rattle.cube_merge.proofs.LeastLaws.{IsLeastIn-row, IsLeastIn-stays}
use Rattle.cube_merge.proofs.front.lesser.Goals as goal

pub returns-in_default : goal.returns-in_default
returns-in_default g c =
    IsLeastIn-none c.args.inputs.now c.args.behind.now c.args.least c.args.place c.requires.so_far
    (ap (λ x. x.row)
    (at_place c.args.inputs.now c.args.place c.index-inputs-place.result c.requires.inside c.index-inputs-place.is)
    ∙ sym (c.in_default.ensures {u = tt}))

pub returns-in_default-least : goal.returns-in_default-least
returns-in_default-least g c =
    let is : c.index-inputs-place.result.row ≡ Some c.in-Some.row.now = sym (c.in-Some.ensures {u = tt}) in
    IsLeastIn-first c.args.inputs.now c.args.behind.now c.args.place c.in-Some.row.now c.requires.inside
    (subst (λ o. IsLeastIn c.args.inputs.now c.args.behind.now o c.args.place) c.in_default-least.is c.requires.so_far)
    (ap (λ x. x.row)
    (at_place c.args.inputs.now c.args.place c.index-inputs-place.result c.requires.inside c.index-inputs-place.is)
    ∙ is)

pub returns-then-is_below : goal.returns-then-is_below
returns-then-is_below g c =
    let is : c.index-inputs-place.result.row ≡ Some c.in-Some.row.now = sym (c.in-Some.ensures {u = tt}) in
    let other_is : c.index-inputs-best.result.row ≡ Some c.in-Some-row.other.now =
    sym (c.in-Some-row.ensures {u = tt}) in
    let so_far =
    subst (λ o. IsLeastIn c.args.inputs.now c.args.behind.now o c.args.place) c.in-Some-least.is c.requires.so_far in
    let less : is_lt (key_cmp c.in-Some.row.now.key c.in-Some-row.other.now.key) ≡ true =
    sym c.is_below.ensures ∙ c.if-is_below.true in
    IsLeastIn-new c.args.inputs.now c.args.behind.now c.in-Some-least.best c.args.place c.in-Some.row.now
    c.in-Some-row.other.now c.requires.inside so_far
    (ap (λ x. x.row)
    (at_place c.args.inputs.now c.args.place c.index-inputs-place.result c.requires.inside c.index-inputs-place.is)
    ∙ is)
    (ap (λ x. x.row)
    (at_place c.args.inputs.now c.in-Some-least.best c.index-inputs-best.result so_far.0 c.index-inputs-best.is)
    ∙ other_is)
    less

pub returns-then-is_behind : goal.returns-then-is_behind
returns-then-is_behind g c =
    IsLeastIn-behind c.args.inputs.now c.args.behind.now c.args.least c.args.place c.requires.so_far
    (sym c.is_behind.ensures ∙ c.if-is_behind.true)

pub returns-in_default-row : goal.returns-in_default-row
returns-in_default-row g c =
    let so_far =
    subst (λ o. IsLeastIn c.args.inputs.now c.args.behind.now o c.args.place) c.in-Some-least.is c.requires.so_far in
    absurd (IsLeastIn-row c.args.inputs.now c.args.behind.now c.in-Some-least.best c.args.place so_far
    (ap (λ x. x.row)
    (at_place c.args.inputs.now c.in-Some-least.best c.index-inputs-best.result so_far.0 c.index-inputs-best.is)
    ∙ sym (c.in_default-row.ensures {u = tt})))

pub returns-else-is_below : goal.returns-else-is_below
returns-else-is_below g c =
    let so_far =
    subst (λ o. IsLeastIn c.args.inputs.now c.args.behind.now o c.args.place) c.in-Some-least.is c.requires.so_far in
    IsLeastIn-stays c.args.inputs.now c.args.behind.now c.in-Some-least.best c.args.place c.in-Some.row.now
    c.in-Some-row.other.now so_far
    (ap (λ x. x.row)
    (at_place c.args.inputs.now c.args.place c.index-inputs-place.result c.requires.inside c.index-inputs-place.is)
    ∙ sym (c.in-Some.ensures {u = tt}))
    (ap (λ x. x.row)
    (at_place c.args.inputs.now c.in-Some-least.best c.index-inputs-best.result so_far.0 c.index-inputs-best.is)
    ∙ sym (c.in-Some-row.ensures {u = tt}))
    (sym c.is_below.ensures ∙ c.if-is_below.false)

pub bounds-inputs-best : goal.bounds-inputs-best
bounds-inputs-best g c =
    (subst (λ o. IsLeastIn c.args.inputs.now c.args.behind.now o c.args.place) c.in-Some-least.is c.requires.so_far).0

pub bounds-inputs-place : goal.bounds-inputs-place
bounds-inputs-place g c = c.requires.inside

pub offset_bounds-inputs-place : goal.offset_bounds-inputs-place
offset_bounds-inputs-place g c = omega arith

pub offset_bounds-inputs-best : goal.offset_bounds-inputs-best
offset_bounds-inputs-best g c =
    let inside : c.in-Some-least.best < length c.args.inputs.now =
    (subst (λ o. IsLeastIn c.args.inputs.now c.args.behind.now o c.args.place)
    c.in-Some-least.is c.requires.so_far).0 in
    omega arith
