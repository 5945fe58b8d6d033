use Rattle.std.proofs.Common.{◌≡◌, ◌+◌, ◌*◌, ◌-◌, ◌^◌, arith}
use Rattle.cube_core.proofs.WideLaws.{divide_step, room_left, within_room}
use Rattle.cube_core.proofs.wide.divide_on.Goals as goal

pub overflow_mul-quotient : goal.overflow_mul-quotient
overflow_mul-quotient c =
    let quotient = c.loop-places.quotient in
    let digit = c.divide_bit-digit.result.0 in
    let places = c.loop-places.places in
    let one_less : places ≡ (places - 1) + 1 = omega (arith, c.loop-places-test.true) in
    omega (
      arith,
      within_room (quotient * 2 + digit) (places - 1) (2 ^ 128)
          (room_left quotient digit (2 ^ 128) places (places - 1) one_less c.divide_bit-digit.ensures.digit c.loop-places.invariant.room),
    )

pub overflow_add-quotient : goal.overflow_add-quotient
overflow_add-quotient c =
    let quotient = c.loop-places.quotient in
    let digit = c.divide_bit-digit.result.0 in
    let places = c.loop-places.places in
    let one_less : places ≡ (places - 1) + 1 = omega (arith, c.loop-places-test.true) in
    omega (
      arith,
      within_room (quotient * 2 + digit) (places - 1) (2 ^ 128)
          (room_left quotient digit (2 ^ 128) places (places - 1) one_less c.divide_bit-digit.ensures.digit c.loop-places.invariant.room),
    )

pub loop-places-preserved : goal.loop-places-preserved
loop-places-preserved c =
    let quotient = c.loop-places.quotient in
    let digit = c.divide_bit-digit.result.0 in
    let places = c.loop-places.places in
    let one_less : places ≡ (places - 1) + 1 = omega (arith, c.loop-places-test.true) in
    record {
      value = divide_step quotient c.loop-places.left c.args.divisor c.args.low digit c.divide_bit-digit.result.1
          (c.args.rest * 2 ^ 128 + c.args.low) places (places - 1) one_less c.loop-places.invariant.value
          c.divide_bit-digit.ensures.value;
      left_below = c.divide_bit-digit.ensures.left;
      room = room_left quotient digit (2 ^ 128) places (places - 1) one_less c.divide_bit-digit.ensures.digit
          c.loop-places.invariant.room;
      few = omega (arith, c.loop-places.invariant.few);
    }
