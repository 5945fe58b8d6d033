use Rattle.cube_cells.proofs.Cells.CubeLaws.{IsCubeOf-TakesFact}
use Rattle.cube_cells.proofs.CountedCubeLaws.{first_fact-fits}
use Rattle.cube_cells.proofs.cube.Cube.remove.Goals as goal

pub take_values-requires : goal.take_values-requires
take_values-requires c =
    rw (c.as_slice.ensures, first_fact-fits c.args.self.now.schema c.args.fact.now c.requires.fits) c.requires

pub returns-clause-taken : goal.returns-clause-taken
returns-clause-taken c =
    rw (c.as_slice.ensures, first_fact-fits c.args.self.now.schema c.args.fact.now c.requires.fits) at
    c.take_values.ensures

pub returns-clause-cube : goal.returns-clause-cube
returns-clause-cube c =
    λ facts cube. IsCubeOf-TakesFact c.args.fact.now c.args.self.now _ facts (returns-clause-taken c) cube
