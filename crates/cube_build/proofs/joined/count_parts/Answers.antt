use Rattle.std.proofs.Common.{◌≡◌, ◌+◌, ℕ, rules, subst, sym}
use Rattle.cube_build.proofs.JoinLaws.{cells-none}
use Rattle.cube_build.proofs.WholeLaws.{HaveCellsOfFirst, number-all, number-more}
use Rattle.cube_build.proofs.joined.count_parts.Goals as goal

pub loop-part-init : goal.loop-part-init
loop-part-init g c = λ s facts are. cells-none _ _ _ _

pub loop-part-preserved : goal.loop-part-preserved
loop-part-preserved g c =
    let sum : c.in-Some.more ≡ c.loop-part.number + c.in_ok-count_cells.field-0 = search rules in
    subst (λ (n : ℕ). HaveCellsOfFirst g.P.HoldsCube.lattice (c.loop-part.part + 1) c.args.parts.now n) (sym sum)
    (number-more g.P.HoldsCube.lattice c.args.parts.now c.loop-part.part c.index-parts-part.result c.held.result.now
    c.loop-part.number c.in_ok-count_cells.field-0 (search rules) (search rules) c.in_ok-count_cells.ensures
    c.loop-part.invariant)

pub returns : goal.returns
returns g c = number-all g.P.HoldsCube.lattice c.args.parts.now c.loop-part.part c.loop-part.number (search rules)
    c.loop-part.invariant
