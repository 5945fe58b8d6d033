use Rattle.cube_cells.proofs.Codes.RankingLaws.{AreSortedTexts-AreInOrder}
use Rattle.cube_cells.proofs.cube.sorted_texts.SortedTexts.of.Goals as goal

pub invariant_of-result : goal.invariant_of-result
invariant_of-result c =
    (AreSortedTexts-AreInOrder c.args.dictionary c.args.places.items c.requires.texts c.requires.order).dictionary
