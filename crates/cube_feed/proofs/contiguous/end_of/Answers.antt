use Rattle.std.proofs.Common.{ℕ, [], length, get_or, arith, ap}
use Rattle.std.proofs.lemmas.List.Sums.{sum_by_push}
use Rattle.csv.specs.Records.{fields_of}
use Rattle.cube_feed.proofs.ContiguousLaws.{BeginsAt-more, parts_of-more}
use Rattle.cube_feed.proofs.contiguous.end_of.Goals as goal

pub overflow_add-stop : goal.overflow_add-stop
overflow_add-stop c =
    let loop = c.loop-place in
    let more = BeginsAt-more c.args.row.now loop.place loop.stop loop.invariant.0
    (omega (arith, c.requires.order, c.loop-place-test.true))
    (omega (arith, c.len_of-len.ensures, c.if-len-eq0.false)) in
    omega (arith, more.0.0, c.len_of-len.ensures, ap length c.as_slice-text.ensures, c.as_slice-text.type_inv)

pub loop-place-preserved : goal.loop-place-preserved
loop-place-preserved c =
    let loop = c.loop-place in
    let row = c.args.row.now in
    let more =
    BeginsAt-more row loop.place loop.stop loop.invariant.0 (omega (arith, c.requires.order, c.loop-place-test.true))
    (omega (arith, c.len_of-len.ensures, c.if-len-eq0.false)) in
    rw (c.push.ensures.items, c.len_of-len.ensures) (
      more.0,
      omega (
        arith,
        loop.invariant.1,
        sum_by_push (λ (n : ℕ). n) loop.lens.items (length (get_or (fields_of row) loop.place [])),
      ),
      parts_of-more row c.args.start loop.place c.args.begin loop.stop loop.lens.items (omega (arith, loop.auto.place))
          (omega (arith, c.requires.order, c.loop-place-test.true))
          loop.invariant.0.0 loop.invariant.1 loop.invariant.2 more.1,
    )
