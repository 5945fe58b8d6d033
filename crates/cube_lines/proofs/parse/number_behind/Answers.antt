use Rattle.std.proofs.Common.{◌≡◌, ◌*◌, ◌+◌, ◌<◌, ◌^◌, ◌∙◌, rules, arith, decimal, length, sym}
use Rattle.std.proofs.lemmas.List.{append-nil}
use Rattle.cube_lines.proofs.UnitTextLaws.{decimal-some, padded-enough}
use Rattle.cube_lines.proofs.ParseLaws.{behind-more}
use Rattle.cube_lines.proofs.parse.number_behind.Goals as goal

pub loop-place-init : goal.loop-place-init
loop-place-init c =
    let small : c.args.front < 10 ^ 64 = omega (arith, c.ranges.front) in
    padded-enough 1 (decimal c.args.front) (decimal-some c.args.front small) ∙ sym (append-nil (decimal c.args.front))

pub loop-place-preserved : goal.loop-place-preserved
loop-place-preserved c =
    let is : c.in_ok-number.number ≡ c.loop-place.number * 10 + c.in_ok-digit.digit = search (rules, arith) in
    let inside : c.loop-place.place < length c.args.text.now = search (rules, arith) in
    rw is (behind-more (decimal c.args.front) c.args.text.now c.loop-place.number c.in_ok-digit.digit
    c.loop-place.place _ inside (search rules) c.in_ok-digit.ensures.digit c.in_ok-digit.ensures.small
    (search (rules, arith)) c.loop-place.invariant)
