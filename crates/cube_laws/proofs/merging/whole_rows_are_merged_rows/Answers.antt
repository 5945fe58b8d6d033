use Rattle.cube_laws.proofs.PartsLaws.{AreMergedOf-whole, AreMergedOf-partial}
use Rattle.cube_laws.proofs.merging.whole_rows_are_merged_rows.Goals as goal

pub returns : goal.returns
returns c = record { whole = AreMergedOf-whole; partial = AreMergedOf-partial }
