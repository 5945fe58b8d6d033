use Rattle.std.proofs.Common.{arith}
use Rattle.std.proofs.lemmas.Result.{on_ok_weaker}
use Rattle.cube_cells.proofs.Cells.CubeLaws.{IsCubeOf-AddsFact}
use Rattle.cube_cells.proofs.Filling.GatheredLaws.{AddsFact-OnlyAddsTexts}
use Rattle.cube_cells.proofs.cube.Cube.gather.Goals as goal

pub count_coded-requires-clause-fits : goal.count_coded-requires-clause-fits
count_coded-requires-clause-fits g c = rw c.code_fact.ensures.same.same.schema c.requires.fits

pub count_coded-requires-clause-room : goal.count_coded-requires-clause-room
count_coded-requires-clause-room g c = omega (arith, c.code_fact.ensures.same.facts, c.requires.room)

pub returns-clause-added : goal.returns-clause-added
returns-clause-added g c = on_ok_weaker c.count_coded.result
    (λ adds. AddsFact-OnlyAddsTexts c.args.fact.now c.args.self.now _ _ c.code_fact.ensures.same adds)
    c.count_coded.ensures.added

pub returns-clause-cube : goal.returns-clause-cube
returns-clause-cube g c = on_ok_weaker c.count_coded.result (λ adds. λ facts cube.
    IsCubeOf-AddsFact c.args.fact.now c.args.self.now _ facts c.requires.fits adds cube) (returns-clause-added g c)
