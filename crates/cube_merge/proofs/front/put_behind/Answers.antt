use Rattle.std.proofs.Common.{◌≡◌, ◌++◌, ◌∷◌, [], length-append, rules, arith}
use Rattle.cube_merge.proofs.LeastLaws.{AreAbove-push}
use Rattle.cube_merge.proofs.front.put_behind.Goals as goal

pub loop-place-preserved : goal.loop-place-preserved
loop-place-preserved g c =
    let so_far = c.loop-place.invariant in
    let b = c.is_above.result in
    let flags = c.loop-place.behind.items in
    let pushed : c.push.new.self.items ≡ flags ++ b ∷ [] = search rules in
    record {
      long = rw (pushed, length-append flags (b ∷ [])) (omega (arith, so_far.long));
      above = rw pushed
          (AreAbove-push c.args.bound.now flags c.args.inputs.now b c.index-inputs-place.result c.loop-place.place
          so_far.long c.loop-place-test.true c.index-inputs-place.is c.is_above.ensures so_far.above);
    }
