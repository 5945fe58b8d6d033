-- Ranges of codes, each with about as many items of a list, so that each can be raised alone (this project's choice):
-- marks are codes of items here and there, in order, and a range begins at each 32nd of them.
use Rattle.std.specs.Prelude.{◌+◌, ◌*◌, ◌&&◌, ℕ, zero, suc, Bool, true, List, length, get_or, filter, not, ltb}
use Rattle.std.specs.Cmp.Lexicographic.{slice_cmp}
use Rattle.std.specs.Global.{Vec}
use Rattle.std.specs.List.Sorted.{IsSortedBy}
use Rattle.std.specs.Ordering.{nat_cmp, is_lt}
use Rattle.cube_cells.specs.BottomUp.{AreRaised, all_at, cells_of_items}
use Rattle.cube_cells.specs.Coded.{CodedCells}
use Rattle.cube_cells.specs.declared.cube.bottom_up.Item.{Item}
use Rattle.cube_cells.specs.declared.cube.codes.Codes.{Codes}

-- codes in order
abbrev pub AreInOrder : List Codes → Type 0
AreInOrder marks = IsSortedBy (λ a b. is_lt (slice_cmp nat_cmp a.codes b.codes)) marks

-- whether codes come at or after the beginning of a range: the first one begins before all codes, each other one
-- at a mark
abbrev pub is_from : List Codes → ℕ → Codes → Bool
is_from marks zero codes = true
is_from marks (suc before) codes = ltb (suc before * 32) (length marks)
    && not (is_lt (slice_cmp nat_cmp codes.codes (get_or marks (suc before * 32) codes).codes))

-- whether codes are in a range: the next one begins after them
abbrev pub is_in_range : List Codes → ℕ → Codes → Bool
is_in_range marks range codes = is_from marks range codes && not (is_from marks (range + 1) codes)

-- the items whose codes with ALL in a dimension are in a range
abbrev pub items_in : List Codes → ℕ → ℕ → CodedCells → CodedCells
items_in marks from range items = filter (λ item. is_in_range marks range (all_at from item.0)) items

-- these are the items of a range with ALL in a dimension, those of the same codes joined
abbrev pub AreRaisedIn : {N : Type 0} → List Codes → ℕ → List (Item N) → ℕ → Vec (Item N) → Type 0
AreRaisedIn marks from items range raised =
    AreRaised from (items_in marks from range (cells_of_items items)) (cells_of_items raised.items)
