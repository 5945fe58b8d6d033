use Rattle.cube_core.proofs.ListLaws.{AllZip-push}
use Rattle.cube_cells.specs.Ranking.{IsRanking}
use Rattle.cube_cells.proofs.cube.ranks.all_ranked.Goals as goal

pub loop-dictionary-preserved : goal.loop-dictionary-preserved
loop-dictionary-preserved c = rw c.in_ok-push.ensures.items
    (AllZip-push IsRanking c.loop-dictionary.yielded c.loop-dictionary.ranked.items c.in-Some.dictionary
    c.in_ok-ranked_texts.field-0 c.loop-dictionary.invariant c.in_ok-ranked_texts.ensures)
