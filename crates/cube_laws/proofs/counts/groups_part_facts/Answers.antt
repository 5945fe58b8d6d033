use Rattle.std.proofs.Common.{◌∙◌}
use Rattle.std.proofs.lemmas.List.{length-map}
use Rattle.cube_core.specs.TextPlaces.{counted}
use Rattle.cube_laws.specs.Cells.{all_counted}
use Rattle.cube_laws.proofs.CountLaws.{all_counted-HaveDimensions, rows_in_set-group_size}
use Rattle.cube_laws.proofs.counts.groups_part_facts.Goals as goal

pub returns : goal.returns
returns c s facts rows set are dims below kept =
    rows_in_set-group_size s (all_counted s facts) rows are set (all_counted-HaveDimensions s facts dims) below kept
    ∙ length-map facts (counted s)
