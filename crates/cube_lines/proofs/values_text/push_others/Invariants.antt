use Rattle.std.proofs.Common.{◌≡◌, ◌++◌, ℤ, ℕ, codes, take}
use Rattle.std.specs.List.{flat_map}
use Rattle.cube_core.specs.Text.{held_text}
use Rattle.cube_lines.proofs.values_text.push_others.Given as goal

abbrev pub invariant-loop-other : goal.invariant-loop-other
invariant-loop-other l =
    l.text.items ≡ l.initial.text.items
    ++ flat_map (λ (other : ℤ × ℕ). codes " " ++ held_text l.digits other) (take l.other-index l.others)
