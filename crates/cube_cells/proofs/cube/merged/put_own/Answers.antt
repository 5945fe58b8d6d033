use Rattle.std.proofs.Common.{rules, ◌∷◌}
use Rattle.std.specs.List.Sorted.{IsPermutation}
use Rattle.cube_cells.proofs.Cells.WalkLaws.{SameTally-refl}
use Rattle.cube_cells.proofs.Filling.FillLaws.{MergesIn-new}
use Rattle.cube_cells.proofs.cube.merged.put_own.Goals as goal

pub returns-clause-merges : goal.returns-clause-merges
returns-clause-merges g c =
    let old = c.args.cells.now.entries in
    let moved : IsPermutation ((c.args.codes, c.args.more) ∷ old) c.insert.new.self.entries = search rules in
    MergesIn-new c.args.codes old c.insert.new.self.entries c.args.more c.args.more c.requires
    c.in_ok-insert.ensures.updates.0 moved (SameTally-refl c.args.more)
