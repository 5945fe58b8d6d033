-- The life of an id in a list of changes: absent, or present with a fact (an update is a delete and an insert:
-- Gray et al. 1997, section 6; an amendment is an update of some fields, an upsert an insert or an update, and a removal
-- a delete that may find nothing: this project's choice).
use Rattle.std.specs.Prelude.{ℕ, Bool, true, false, List, [], ◌∷◌, Option, Some, None, Result, Ok, Err, if◌then◌else◌}
use Rattle.std.specs.Prelude.{filter}
use Rattle.std.specs.Str.{bytes_eq}
use Rattle.std.specs.List.{list_any, filter_map, fold}
use Rattle.cube_core.specs.Layout.{Layout}
use Rattle.cube_core.specs.Amendment.{over}
use Rattle.cube_core.specs.Takes.{takes}
use Rattle.cube_core.specs.declared.fact.Fact.{Fact}
use Rattle.cube_core.specs.declared.change.Change.{Change}
use Rattle.cube_core.specs.declared.change.Change.TheVariants.{Insert, Update, Amend, Upsert, Delete, Remove}
use Rattle.cube_core.specs.declared.change.LineFault.{LineFault}
use Rattle.cube_core.specs.declared.change.Item.{Item}

-- the id that a change names
abbrev pub id_of : Change → List ℕ
id_of (Insert id fact) = id
id_of (Update id fact) = id
id_of (Amend id part) = id
id_of (Upsert id fact) = id
id_of (Delete id) = id
id_of (Remove id) = id

-- the changes that name an id, in their order
abbrev pub naming : List ℕ → List Change → List Change
naming id changes = filter (λ change. bytes_eq id (id_of change)) changes

-- whether a change is a delete or a removal
abbrev pub is_delete : Change → Bool
is_delete (Insert id fact) = false
is_delete (Update id fact) = false
is_delete (Amend id part) = false
is_delete (Upsert id fact) = false
is_delete (Delete id) = true
is_delete (Remove id) = true

-- the changes after the last delete or removal; all of them, where there is none
abbrev pub since_delete : List Change → List Change
since_delete [] = []
since_delete (change ∷ changes) =
    if list_any is_delete (change ∷ changes) then since_delete changes else change ∷ changes

-- the fact of a present id after a change that doesn't take it away:
-- an update or an upsert puts its fact, an amendment some fields of it
abbrev pub updated_by : Fact → Change → Fact
updated_by fact (Insert id other) = fact
updated_by fact (Update id other) = other
updated_by fact (Amend id part) = over part fact
updated_by fact (Upsert id other) = other
updated_by fact (Delete id) = fact
updated_by fact (Remove id) = fact

-- the fact after all updates, upserts and amendments of a list, one over the other
abbrev pub updated : Fact → List Change → Fact
updated fact changes = fold updated_by fact changes

-- the fact of the first insert or upsert after all updates, upserts and amendments that follow it; nothing, where there
-- is neither
abbrev pub from_insert : List Change → Option Fact
from_insert [] = None
from_insert (Insert id fact ∷ changes) = Some (updated fact changes)
from_insert (Update id fact ∷ changes) = from_insert changes
from_insert (Amend id part ∷ changes) = from_insert changes
from_insert (Upsert id fact ∷ changes) = Some (updated fact changes)
from_insert (Delete id ∷ changes) = from_insert changes
from_insert (Remove id ∷ changes) = from_insert changes

-- the life of an id: the fact that it has in the end, if it is present then
abbrev pub life_of : List ℕ → List Change → Option Fact
life_of id changes = from_insert (since_delete (naming id changes))

-- the change of an item, if the item has one that the schema takes
abbrev pub taken_change : Layout → Result Change LineFault → Option Change
taken_change s (Ok change) = if takes s change then Some change else None
taken_change s (Err fault) = None

-- the changes of items that the schema takes, in their order
abbrev pub changes_of : Layout → List Item → List Change
changes_of s items = filter_map (λ (item : Item). taken_change s item.what) items
