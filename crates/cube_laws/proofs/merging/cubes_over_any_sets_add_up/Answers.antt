use Rattle.cube_laws.proofs.MergedLaws.{AreRowsOver-AreMergedOf}
use Rattle.cube_laws.proofs.merging.cubes_over_any_sets_add_up.Goals as goal

pub returns : goal.returns
returns c sets dimensions given wanted parts cubes rows some are merge =
    AreRowsOver-AreMergedOf sets dimensions given wanted parts cubes rows some are merge
