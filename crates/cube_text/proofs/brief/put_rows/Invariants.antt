use Rattle.std.proofs.Common.{◌≡◌, ◌++◌, map, take}
use Rattle.cube_cells.specs.Walk.{key_in}
use Rattle.cube_text.specs.Brief.{brief_text}
use Rattle.cube_text.specs.Shown.{AreShown}
use Rattle.cube_text.proofs.brief.put_rows.Given as goal

abbrev pub invariant-loop-set : goal.invariant-loop-set
invariant-loop-set g l = AreShown l.cells.dictionaries l.shown
    → l.text.items ≡ l.initial.text.items
    ++ brief_text l.cells.dictionaries (take l.set-index (map (λ set. (key_in l.codes set, l.ending)) l.sets))
