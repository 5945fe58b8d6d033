use Rattle.std.proofs.Common.{add-one, arith, drop, drop-cons, get_or, suc}
use Rattle.cube_console.proofs.EndsLaws as laws
use Rattle.cube_console.proofs.place.records_in.Goals as goal

pub loop-byte-preserved : goal.loop-byte-preserved
loop-byte-preserved c =
    let bytes = c.args.bytes.now in
    let at = c.loop-byte.byte-index in
    let ends = c.after_byte-next.result.1 in
    record {
      within = omega (arith, laws.from_bool-most ends, c.from-count.ensures, c.loop-byte.invariant.within);
      goes = λ s is. rw (c.from-count.ensures, add-one at)
          (laws.Goes-next s c.loop-byte.now c.after_byte-next.result.0 c.loop-byte.count ends bytes (drop at bytes)
          (get_or bytes at 0) (drop (suc at) bytes) (drop-cons bytes at 0 c.loop-byte-test.true)
          c.after_byte-next.ensures (c.loop-byte.invariant.goes s is));
    }
