use Rattle.std.proofs.Common.{◌∙◌}
use Rattle.cube_core.proofs.QueryLaws.{eq-coord_cmp}
use Rattle.cube_core.proofs.pattern.is_wanted.Goals as goal

pub returns-in-Some : goal.returns-in-Some
returns-in-Some c = rw c.in-Some.is (c.eq.ensures ∙ eq-coord_cmp c.in-Some.wanted c.args.coord.now)
