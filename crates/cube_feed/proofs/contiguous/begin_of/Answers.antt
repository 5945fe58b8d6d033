use Rattle.std.proofs.Common.{arith, ap, length}
use Rattle.cube_feed.proofs.ContiguousLaws.{BeginsAt-more}
use Rattle.cube_feed.proofs.contiguous.begin_of.Goals as goal

pub overflow_add-begin : goal.overflow_add-begin
overflow_add-begin c =
    let loop = c.loop-before in
    let more = BeginsAt-more c.args.row.now loop.before loop.begin loop.invariant
    (omega (arith, c.requires, c.loop-before-test.true)) (omega (arith, c.len_of-len.ensures, c.if-len-eq0.false)) in
    omega (arith, more.0.0, c.len_of-len.ensures, ap length c.as_slice-text.ensures, c.as_slice-text.type_inv)

pub loop-before-preserved : goal.loop-before-preserved
loop-before-preserved c =
    let loop = c.loop-before in
    rw c.len_of-len.ensures
    (BeginsAt-more c.args.row.now loop.before loop.begin loop.invariant
    (omega (arith, c.requires, c.loop-before-test.true)) (omega (arith, c.len_of-len.ensures, c.if-len-eq0.false))).0
