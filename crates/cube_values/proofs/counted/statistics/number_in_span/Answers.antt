use Rattle.std.proofs.Common.{rules, FitsSigned, w64}
use Rattle.std.proofs.lemmas.Int.{to_z-of_z}
use Rattle.cube_values.specs.Values.{bag_of}
use Rattle.cube_values.proofs.StatisticsLaws.{IsSpanOf-IsAtPlace}
use Rattle.cube_values.proofs.counted.statistics.number_in_span.Goals as goal

pub returns : goal.returns
returns c =
    let fits : FitsSigned w64 c.loop-left.left.low = search rules in
    rw (to_z-of_z w64 c.loop-left.left.low fits) (IsSpanOf-IsAtPlace (bag_of c.args.values.now) c.args.place
    c.loop-left.left.low c.loop-left.left.width c.loop-left.invariant c.loop-left-test.false)
