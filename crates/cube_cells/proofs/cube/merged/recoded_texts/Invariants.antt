use Rattle.std.proofs.Common.{◌≡◌, ◌+◌, length}
use Rattle.std.specs.Prelude.{All}
use Rattle.cube_cells.specs.Codes.{IsDictionary}
use Rattle.cube_cells.specs.Merged.{AreRecoded}
use Rattle.cube_cells.proofs.cube.merged.recoded_texts.Given as goal

abbrev pub invariant-loop-dictionary : goal.invariant-loop-dictionary
invariant-loop-dictionary l =
    AreRecoded l.yielded l.more l.columns.items × All IsDictionary l.dictionary-iterator.rest.items
    × (length l.yielded + length l.dictionary-iterator.rest.items ≡ length l.fn.dictionaries.items)
