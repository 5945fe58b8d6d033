use Rattle.cube_cells.proofs.Codes.RankLaws.{AreRanks-LeadBack}
use Rattle.cube_cells.proofs.cube.ranks.Ranks.new.Goals as goal

pub returns : goal.returns
returns c = AreRanks-LeadBack c.args.dictionary.now c.in_ok-places.places.items c.in_ok-ranks.ranks.items
    c.in_ok-places.ensures.dictionary c.in_ok-places.ensures.order (rw c.deref.ensures.value at c.in_ok-ranks.ensures)
