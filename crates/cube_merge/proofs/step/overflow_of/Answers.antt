use Rattle.std.proofs.Common.{◌∙◌, ◌≡◌, ◌<◌, Some, ap, arith, get_or, length, subst, sym}
use Rattle.cube_merge.specs.Joint.{HasRow, rows_of}
use Rattle.cube_merge.specs.Merging.{nothing_left}
use Rattle.cube_merge.proofs.FaultLaws.{TellsOverflow-told, rows_of-among}
use Rattle.cube_merge.proofs.JointLaws.{HaveRows-in}
use Rattle.cube_merge.proofs.LeastLaws.{at_place}
use Rattle.cube_merge.proofs.step.overflow_of.Goals as goal

pub returns-in-Some : goal.returns-in-Some
returns-in-Some g c =
    let inputs = c.args.inputs.now in
    let place = c.in-Some.place.now in
    let found = (c.in-Some.ensures {u = tt}).lookup in
    let has = subst (λ p. (p < length inputs) × HasRow (get_or inputs p nothing_left)) (sym (found.3.1 0))
    (HaveRows-in inputs c.args.places.now c.args.which c.requires found.3.0) in
    TellsOverflow-told inputs (rows_of inputs c.args.places.now) place c.lines.result has.1.0 c.fault_of.result
    c.fault_of.ensures has.0 has.1.1
    (rows_of-among inputs c.args.places.now c.args.which has.1.0 found.3.0
    (subst (λ p. (get_or inputs p nothing_left).row ≡ Some has.1.0) (found.3.1 0) has.1.1))
    (c.lines.ensures
    ∙ ap (λ i. i.lines) (sym (at_place inputs place c.index-inputs-place.result has.0 c.index-inputs-place.is)))

pub bounds-inputs-place : goal.bounds-inputs-place
bounds-inputs-place g c =
    let inputs = c.args.inputs.now in
    let found = (c.in-Some.ensures {u = tt}).lookup in
    (subst (λ p. (p < length inputs) × HasRow (get_or inputs p nothing_left)) (sym (found.3.1 0))
    (HaveRows-in inputs c.args.places.now c.args.which c.requires found.3.0)).0

pub offset_bounds-inputs-place : goal.offset_bounds-inputs-place
offset_bounds-inputs-place g c =
    let inputs = c.args.inputs.now in
    let found = (c.in-Some.ensures {u = tt}).lookup in
    let inside : c.in-Some.place.now < length inputs =
    (subst (λ p. (p < length inputs) × HasRow (get_or inputs p nothing_left)) (sym (found.3.1 0))
    (HaveRows-in inputs c.args.places.now c.args.which c.requires found.3.0)).0 in
    omega arith
