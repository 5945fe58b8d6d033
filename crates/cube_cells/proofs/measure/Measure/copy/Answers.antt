use Rattle.std.proofs.Common.{rules, arith, ◌<◌, ◌^◌}
use Rattle.cube_cells.proofs.measure.Measure.copy.Goals as goal

pub merge-requires : goal.merge-requires
merge-requires g c =
    let few : c.count-count.result < 2 ^ 64 = search rules in
    omega (arith, few, c.count-count.ensures, c.new-copy.ensures.size)

pub returns : goal.returns
returns g c = record { held = λ x. omega (arith, c.in_ok-merge.ensures.merged.held x, c.new-copy.ensures.held x) }
