use Rattle.std.proofs.Common.{◌≡◌, ◌≤◌, ◌++◌, length, map, take}
use Rattle.cube_cells.specs.Levels.{mask_of_codes}
use Rattle.cube_text.proofs.brief.put_sets.Given as goal

abbrev pub invariant-loop-key : goal.invariant-loop-key
invariant-loop-key l = record {
  sets : l.text.items ≡ l.initial.text.items ++ map (λ key. mask_of_codes key.codes) (take l.key-index l.keys);
  longer : length l.initial.text.items ≤ length l.text.items;
}
