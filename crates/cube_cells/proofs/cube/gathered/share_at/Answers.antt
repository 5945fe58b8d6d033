use Rattle.std.proofs.Common.{◌≡◌, length}
use Rattle.cube_cells.proofs.Filling.GatheredLaws.{All-fact}
use Rattle.cube_cells.proofs.cube.gathered.share_at.Goals as goal

pub share_of-requires-clause-width : goal.share_of-requires-clause-width
share_of-requires-clause-width c = All-fact c.args.facts.now c.args.place c.index-facts-place.result c.requires.place
    c.index-facts-place.is (λ f. length f.dims ≡ c.args.dimensions) c.requires.width
