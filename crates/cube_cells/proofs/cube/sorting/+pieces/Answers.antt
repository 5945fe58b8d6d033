use Rattle.std.proofs.lemmas.List.Sorted.{IsPermutation-append}
use Rattle.cube_cells.proofs.cube.sorting.+pieces.Goals as goal

pub sort_pieces-returns-else-pieces-lt2 : goal.sort_pieces-returns-else-pieces-lt2
sort_pieces-returns-else-pieces-lt2 g t c =
    rw c.split_at_mut-low.ensures.value
    (IsPermutation-append _ _ _ _ c.sort_both.ensures.low c.sort_both.ensures.high)
