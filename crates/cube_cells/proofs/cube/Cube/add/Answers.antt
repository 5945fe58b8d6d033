use Rattle.std.proofs.lemmas.Result.{on_err_weaker, on_ok_weaker}
use Rattle.cube_cells.proofs.Cells.CubeLaws.{IsCubeOf-AddsFact, IsCubeOf-SameCells}
use Rattle.cube_cells.proofs.CountedCubeLaws.{first_fact-fits, take-fits}
use Rattle.cube_cells.proofs.cube.Cube.add.Goals as goal

pub add_values-requires-clause-fits : goal.add_values-requires-clause-fits
add_values-requires-clause-fits c =
    rw (c.as_slice.ensures, take-fits c.args.self.now.schema c.args.fact.now c.requires.fits) c.requires.fits

pub returns-clause-added : goal.returns-clause-added
returns-clause-added c =
    rw (c.as_slice.ensures, first_fact-fits c.args.self.now.schema c.args.fact.now c.requires.fits) at
    c.add_values.ensures.added

pub returns-clause-texts : goal.returns-clause-texts
returns-clause-texts c =
    rw (take-fits c.args.self.now.schema c.args.fact.now c.requires.fits) at c.add_values.ensures.texts

pub returns-clause-err_texts : goal.returns-clause-err_texts
returns-clause-err_texts c =
    rw (take-fits c.args.self.now.schema c.args.fact.now c.requires.fits) at c.add_values.ensures.err_texts

pub returns-clause-cube : goal.returns-clause-cube
returns-clause-cube c = on_ok_weaker c.add_values.result (λ adds. λ facts cube.
    IsCubeOf-AddsFact c.args.fact.now c.args.self.now _ facts c.requires.fits adds cube) (returns-clause-added c)

pub returns-clause-err_cube : goal.returns-clause-err_cube
returns-clause-err_cube c = on_err_weaker c.add_values.result
    (λ same. λ facts cube. IsCubeOf-SameCells c.args.self.now _ facts same cube) c.add_values.ensures.err
