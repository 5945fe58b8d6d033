use Rattle.std.proofs.Common.{◌≡◌, ◌*◌, ◌+◌, rules, arith, decimal}
use Rattle.cube_lines.proofs.ParseLaws.{digits-more}
use Rattle.cube_lines.proofs.UnitTextLaws.{decimal-more}
use Rattle.cube_lines.proofs.parse.more_of_long.Goals as goal

pub loop-place-preserved : goal.loop-place-preserved
loop-place-preserved c =
    let before = c.loop-place.invariant in
    let n = c.loop-place.number in
    let d = c.in-Some.digit in
    let is : c.in_ok-number.number ≡ n * 10 + d = search (rules, arith) in
    record {
      some = omega (arith, is, before.some);
      read = rw is (digits-more (decimal c.args.front) c.args.text.now (decimal n) _ d c.loop-place.place _
          c.loop-place-test.true (search rules) c.in-Some.ensures.digit
          (decimal-more n d before.some c.in-Some.ensures.small (search (rules, arith))) before.read);
    }
