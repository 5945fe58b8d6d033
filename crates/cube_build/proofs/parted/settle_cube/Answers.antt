use Rattle.cube_build.proofs.PartedLaws.{AllFitCounted-same, Settles-both, has-gone}
use Rattle.cube_build.proofs.parted.settle_cube.Goals as goal

pub take_all-requires-clause-fit : goal.take_all-requires-clause-fit
take_all-requires-clause-fit c =
    AllFitCounted-same c.args.cube.now c.add_all.new.cube c.args.gone.now c.in_ok-add_all.ensures.same
    c.requires.gone_fit

pub take_all-requires-clause-has : goal.take_all-requires-clause-has
take_all-requires-clause-has c = (
  c.requires.left,
  has-gone c.args.come.now c.args.gone.now c.args.cube.now c.add_all.new.cube c.requires c.in_ok-add_all.ensures,
)

pub returns : goal.returns
returns c = Settles-both c.args.come.now c.args.gone.now c.args.cube.now c.add_all.new.cube c.take_all.new.cube
    c.in_ok-add_all.ensures c.take_all.ensures
