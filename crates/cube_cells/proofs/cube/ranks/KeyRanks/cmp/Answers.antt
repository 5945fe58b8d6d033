use Rattle.std.proofs.Common.{◌∙◌}
use Rattle.cube_cells.proofs.Codes.WordLaws.{halves-cmp}
use Rattle.cube_cells.proofs.cube.ranks.KeyRanks.cmp.Goals as goal

pub returns : goal.returns
returns c =
    rw (← c.self.view_is, ← c.other.view_is) (c.cmp.ensures ∙ halves-cmp c.self.inside.words c.other.inside.words)
