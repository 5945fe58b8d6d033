use Rattle.std.proofs.Common.{arith}
use Rattle.cube_values.proofs.OrderedLaws.{AddsOne-last}
use Rattle.cube_values.proofs.counted.take_ordered.Goals as goal

pub returns-then-count-le1-clause-other : goal.returns-then-count-le1-clause-other
returns-then-count-le1-clause-other c = AddsOne-last c.args.ordered.now c.none.result c.args.value
    (omega (arith, c.count.ensures, c.if-count-le1.true)) c.requires.held c.none.ensures.held
