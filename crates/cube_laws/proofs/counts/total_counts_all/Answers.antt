use Rattle.std.proofs.Common.{ap, ◌∙◌}
use Rattle.std.proofs.lemmas.List.{length-map}
use Rattle.cube_core.specs.TextPlaces.{counted}
use Rattle.cube_core.specs.declared.aggregate.Answer.TheVariants as answer
use Rattle.cube_laws.specs.Cells.{all_counted}
use Rattle.cube_laws.proofs.CountLaws.{all_counted-HaveDimensions, answer_at-is_total}
use Rattle.cube_laws.proofs.counts.total_counts_all.Goals as goal

pub returns : goal.returns
returns c s facts rows row place are dims among total at_place =
    answer_at-is_total s (all_counted s facts) rows row place are (all_counted-HaveDimensions s facts dims) among total
    at_place ∙ ap answer.Count (length-map facts (counted s))
