-- The refusals of a list of items:
-- the number of each refused item, with the code of the first reason (this project's choice).
use Rattle.std.specs.Prelude.{ℕ, Bool, List, length, take, Option, Some, None, is_some, slice_get, Result, Ok, Err}
use Rattle.std.specs.Prelude.{if◌then◌else◌, not, option_map, option_and_then}
use Rattle.std.specs.List.{filter_map, range_with_len}
use Rattle.cube_core.specs.Layout.{Layout}
use Rattle.cube_core.specs.Takes.{takes, may_amend}
use Rattle.cube_core.specs.Life.{id_of, life_of, changes_of}
use Rattle.cube_core.specs.declared.change.Change.{Change}
use Rattle.cube_core.specs.declared.change.Change.TheVariants.{Insert, Update, Amend, Upsert, Delete, Remove}
use Rattle.cube_core.specs.declared.change.LineFault.{LineFault}
use Rattle.cube_core.specs.declared.change.LineFault.TheVariants as fault
use Rattle.cube_core.specs.declared.change.Item.{Item}
use Rattle.cube_core.specs.declared.change.Refusal.{Refusal}

-- the code of an insert of an id that is present:
-- in version 2 the codes are one higher, since a fault of lines is 6 there
abbrev pub present_code : Layout → ℕ
present_code s = if may_amend s then 7 else 6

-- the code of an update, an amendment or a delete of an id that is absent
abbrev pub absent_code : Layout → ℕ
absent_code s = if may_amend s then 8 else 7

-- the code of a change that the schema doesn't take
abbrev pub shape_code : Layout → ℕ
shape_code s = if may_amend s then 9 else 8

-- the code of a line fault; an insert or an upsert that keeps a field is a fault of version 2 alone
abbrev pub code_of_fault : Layout → LineFault → ℕ
code_of_fault s fault.Op = 1
code_of_fault s fault.Fields = 2
code_of_fault s fault.Text = 3
code_of_fault s fault.Id = 4
code_of_fault s fault.Measure = 5
code_of_fault s fault.Keep = if may_amend s then 6 else shape_code s

-- the code of a change of an id that is present or absent, if it is refused; an upsert and a removal never are
abbrev pub code_by_presence : Layout → Change → Bool → Option ℕ
code_by_presence s (Insert id fact) present = if present then Some (present_code s) else None
code_by_presence s (Update id fact) present = if present then None else Some (absent_code s)
code_by_presence s (Amend id part) present = if present then None else Some (absent_code s)
code_by_presence s (Upsert id fact) present = None
code_by_presence s (Delete id) present = if present then None else Some (absent_code s)
code_by_presence s (Remove id) present = None

-- the code of what an item says, if it is refused after the items before it
abbrev pub code_of : Layout → List Item → Result Change LineFault → Option ℕ
code_of s before (Err line_fault) = Some (code_of_fault s line_fault)
code_of s before (Ok change) =
    if not (takes s change) then Some (shape_code s)
    else code_by_presence s change (is_some (life_of (id_of change) (changes_of s before)))

-- the refusal of an item after the items before it, if it is refused
abbrev pub refusal_of : Layout → List Item → Item → Option Refusal
refusal_of s before item =
    option_map (λ code. let refusal : Refusal = record { number = item.number; code = code } in refusal)
    (code_of s before item.what)

-- the refusal of the item at a place of a list, if it is refused
abbrev pub refusal_at : Layout → List Item → ℕ → Option Refusal
refusal_at s items place = option_and_then (refusal_of s (take place items)) (slice_get items place)

-- the refusals of a list of items, in its order
abbrev pub refusals_of : Layout → List Item → List Refusal
refusals_of s items = filter_map (refusal_at s items) (range_with_len 0 (length items))
