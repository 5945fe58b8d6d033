use Rattle.cube_laws.proofs.MergeOrderLaws.{IsMergeTree-AreRows, AreMergeTrees-AreRows}
use Rattle.cube_laws.proofs.merging.merges_nest.Goals as goal

pub returns : goal.returns
returns c = record { partial = λ s facts rows tree. IsMergeTree-AreRows s tree; whole = AreMergeTrees-AreRows }
