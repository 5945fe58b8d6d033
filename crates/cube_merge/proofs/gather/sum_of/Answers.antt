use Rattle.std.proofs.Common.{◌≡◌, ◌<◌, ◌≤◌, ◌+◌, ◌+ℤ◌, true, false, FitsSigned, length, sym, ap, ◌∙◌, take, subst, arith}
use Rattle.std.specs.Int.{w128}
use Rattle.std.proofs.lemmas.Int.{to_z-of_z}
use Rattle.cube_core.specs.Group.{total_of}
use Rattle.cube_core.specs.Merged.{number_in, numbers_of}
use Rattle.cube_merge.specs.Total.{IsTotal}
use Rattle.cube_merge.specs.declared.total.Total.{Total}
use Rattle.cube_merge.proofs.GatherLaws.{length-push, numbers_of-next, numbers_of-next_none, total_of-push}
use Rattle.cube_merge.proofs.gather.sum_of.Goals.{in-Some, in_default}
use Rattle.cube_merge.proofs.gather.sum_of.Goals as goal

pub loop-place-preserved : goal.loop-place-preserved
loop-place-preserved c =
    let i = c.loop-place.place in
    let answers = c.args.answers.now in
    let b = c.index-answers-place.result in
    let old = numbers_of (take i answers) in
    let so_far = c.loop-place.invariant in
    elim c.match-number_in.branch [
      | in-Some w ↦
          let number = w.in-Some.number in
          let fits : FitsSigned w128 number = (w.in-Some.ensures {u = tt}).fits in
          let grown =
          numbers_of-next answers i b number c.loop-place-test.true
          (ap number_in (sym c.index-answers-place.is) ∙ sym c.number_in.ensures.value ∙ w.in-Some.is) in
          let added : IsTotal (total_of old +ℤ number) w.add.new.self =
          subst (λ z. IsTotal (total_of old +ℤ z) w.add.new.self) (to_z-of_z w128 number fits)
          (w.add.ensures.sum (total_of old) so_far.sum) in
          record {
            sum = subst (λ (t : Total). IsTotal (total_of (numbers_of (take (i + 1) answers))) t) (sym w.total-is)
                (subst (λ xs. IsTotal (total_of xs) w.add.new.self) (sym grown)
                (subst (λ z. IsTotal z w.add.new.self) (sym (total_of-push old number)) added));
            null = λ on. let clash : true ≡ false = sym on ∙ w.is_null-is in absurd (cc);
            some = λ _. subst (λ xs. 0 < length xs) (sym grown) (length-push old number);
            ups = subst (λ (t : Total). t.ups ≤ i + 1) (sym w.total-is) (omega (arith, w.add.ensures.ups, so_far.ups));
            downs = subst (λ (t : Total). t.downs ≤ i + 1) (sym w.total-is)
                (omega (arith, w.add.ensures.downs, so_far.downs));
          }
      | in_default w ↦
          let none =
          numbers_of-next_none answers i b c.loop-place-test.true
          (ap number_in (sym c.index-answers-place.is) ∙ sym c.number_in.ensures.value ∙ w.in_default.is) in
          record {
            sum = subst (λ (t : Total). IsTotal (total_of (numbers_of (take (i + 1) answers))) t) (sym w.total-is)
                (subst (λ xs. IsTotal (total_of xs) c.loop-place.total) (sym none) so_far.sum);
            null = λ on. none ∙ so_far.null (sym w.is_null-is ∙ on);
            some = λ off. subst (λ xs. 0 < length xs) (sym none) (so_far.some (sym w.is_null-is ∙ off));
            ups = subst (λ (t : Total). t.ups ≤ i + 1) (sym w.total-is) (omega (arith, so_far.ups));
            downs = subst (λ (t : Total). t.downs ≤ i + 1) (sym w.total-is) (omega (arith, so_far.downs));
          }
    ]
