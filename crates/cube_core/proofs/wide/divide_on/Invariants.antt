use Rattle.cube_core.proofs.WideLaws.{IsDivided}
use Rattle.cube_core.proofs.wide.divide_on.Given as goal

abbrev pub invariant-loop-places : goal.invariant-loop-places
invariant-loop-places l =
    IsDivided l.rest l.low l.divisor l.quotient l.left l.places

abbrev pub decreases-loop-places : goal.decreases-loop-places
decreases-loop-places l = l.places
