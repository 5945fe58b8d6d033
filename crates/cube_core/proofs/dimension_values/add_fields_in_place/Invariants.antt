use Rattle.std.proofs.Common.{◌≡◌, ◌≤◌, ◌+◌, ◌++◌, length, map, drop}
use Rattle.std.specs.Prelude.{All}
use Rattle.std.specs.List.{sum_by}
use Rattle.std.specs.Str.{IsAscii}
use Rattle.cube_core.specs.Items.{dimension_of}
use Rattle.cube_core.specs.Values.{value_at_span, parts_of, LiesIn}
use Rattle.cube_core.proofs.dimension_values.add_fields_in_place.Given as goal

abbrev pub invariant-loop-len : goal.invariant-loop-len
invariant-loop-len l =
    (l.end + sum_by (λ len. len) (drop l.len-index l.lens) ≡ length l.block.items)
    × (length l.spans.items + length (drop l.len-index l.lens) ≤ 4)
    × IsAscii (drop l.end l.block.items)
    × (All (LiesIn l.fn.block.items) l.fn.spans.items → All (LiesIn l.block.items) l.spans.items
    × (map (value_at_span l.block.items) l.spans.items
    ++ map dimension_of (parts_of (drop l.len-index l.lens) (drop l.end l.block.items))
    ≡ map (value_at_span l.fn.block.items) l.fn.spans.items ++ map dimension_of (parts_of l.lens l.text)))
