use Rattle.cube_cells.proofs.Codes.RankingLaws.{IsRanking-LeadBack}
use Rattle.cube_cells.proofs.cube.ranks.ranked_texts.Goals as goal

pub returns : goal.returns
returns c = IsRanking-LeadBack c.args.dictionary c.in_ok-places.places.items _
    c.in_ok-places.ensures.dictionary c.in_ok-places.ensures.order (rw c.deref.ensures.value at c.in_ok-ranks.ensures)
    c.of.ensures
