use Rattle.std.proofs.Common.{◌≡◌, ◌++◌, ◌∷◌, [], length, length-append, rules, subst, sym, ◌∙◌, arith}
use Rattle.cube_merge.specs.Joint.{place_where}
use Rattle.cube_merge.specs.Merging.{IsBelow, IsNotBelow}
use Rattle.cube_merge.proofs.JointLaws.{HaveRows-more, rows_of-more}
use Rattle.cube_merge.proofs.LeastLaws.{AreUses-all, AreUses-push, at_place}
use Rattle.cube_merge.proofs.step.find_used.Goals as goal

pub has_key-is_used-requires-clause-least : goal.has_key-is_used-requires-clause-least
has_key-is_used-requires-clause-least g c =
    subst (IsNotBelow c.args.key.now) (at_place c.args.inputs.now c.loop-place.place c.index-inputs-place.result
    c.loop-place-test.true c.index-inputs-place.is) (c.requires.least c.loop-place.place)

pub has_key-is_used-requires-clause-above : goal.has_key-is_used-requires-clause-above
has_key-is_used-requires-clause-above g c there =
    subst (IsBelow c.args.key.now) (at_place c.args.inputs.now c.loop-place.place c.index-inputs-place.result
    c.loop-place-test.true c.index-inputs-place.is)
    (c.requires.above c.loop-place.place (sym c.is_behind.ensures ∙ there))

pub loop-place-preserved : goal.loop-place-preserved
loop-place-preserved g c =
    let i = c.loop-place.place in
    let x = c.index-inputs-place.result in
    let us = c.loop-place.used.items in
    let u = c.has_key-is_used.result in
    let so_far = c.loop-place.invariant in
    let pushed : c.push.new.self.items ≡ us ++ u ∷ [] = search rules in
    let placed : c.put_where.new.places.items ≡ c.loop-place.places.items ++ place_where i u =
    c.in_ok-put_where.ensures {u = tt} in
    record {
      width = rw (pushed, length-append us (u ∷ [])) (omega (arith, so_far.width));
      uses = rw pushed (AreUses-push c.args.key.now us c.args.inputs.now u i x so_far.width c.loop-place-test.true
          c.index-inputs-place.is c.has_key-is_used.ensures so_far.uses);
      rows = rw (pushed, placed) (rows_of-more c.args.inputs.now c.loop-place.places.items us i x u so_far.width
          c.loop-place-test.true c.index-inputs-place.is so_far.rows);
      have_rows = rw placed (HaveRows-more c.args.key.now c.args.inputs.now c.loop-place.places.items i x u
          c.loop-place-test.true c.index-inputs-place.is c.has_key-is_used.ensures so_far.have_rows);
    }

pub returns-clause-uses : goal.returns-clause-uses
returns-clause-uses g c =
    let same : length c.loop-place.used.items ≡ length c.args.inputs.now =
    omega (arith, c.loop-place.invariant.width, c.loop-place-test.false, c.loop-place.auto.place-end) in
    AreUses-all c.args.key.now c.loop-place.used.items c.args.inputs.now c.loop-place.place same c.loop-place-test.false
    c.loop-place.invariant.uses

pub bounds-inputs-place : goal.bounds-inputs-place
bounds-inputs-place g c = c.loop-place-test.true

pub offset_bounds-inputs-place : goal.offset_bounds-inputs-place
offset_bounds-inputs-place g c = omega arith
