use Rattle.std.proofs.Common.{◌≡◌, ◌++◌, [], ℕ, List, Option, length}
use Rattle.std.specs.Io.KnownBytes.{Appends}
use Rattle.cube_core.specs.Text.{text_of_rows}
use Rattle.cube_core.specs.declared.key.Row.{Row}
use Rattle.cube_merge.specs.Front.{AreAbove}
use Rattle.cube_merge.specs.Merging.{IsMerging}
use Rattle.cube_merge.proofs.cubes.merge_rows.Given as goal

abbrev pub invariant-loop : goal.invariant-loop
invariant-loop g l = record {
  above : AreAbove l.front.bound l.front.behind.items l.inputs;
  merging : (starts : List (Option (List ℕ))) → IsMerging l.given l.wanted.aggregates starts l.initial.inputs []
      → (rows : List Row) × (bytes : List ℕ) × (length l.inputs ≡ length l.initial.inputs)
      × IsMerging l.given l.wanted.aggregates starts l.inputs rows
      × Appends (g.W.Write.contents l.initial.w) (g.W.Write.contents l.w) bytes
      × (bytes ++ l.desk.text.items ≡ text_of_rows l.wanted rows) × (l.sent ≡ length bytes);
}
