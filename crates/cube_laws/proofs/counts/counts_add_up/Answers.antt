use Rattle.std.proofs.Common.{◌∙◌}
use Rattle.std.proofs.lemmas.List.{length-map}
use Rattle.cube_core.specs.TextPlaces.{counted}
use Rattle.cube_laws.specs.Cells.{all_counted}
use Rattle.cube_laws.proofs.CountLaws.{all_counted-HaveDimensions, rows_in_set-count_at}
use Rattle.cube_laws.proofs.counts.counts_add_up.Goals as goal

pub returns : goal.returns
returns c s facts rows set place are dims below kept at_place =
    rows_in_set-count_at s (all_counted s facts) rows set place are (all_counted-HaveDimensions s facts dims) below kept
    at_place ∙ length-map facts (counted s)
