-- The facts of one source, each under its id: a map of ids to facts, empty at first (this project's choice).
use Rattle.std.specs.Prelude.{◌≡◌, ◌++◌, ◌∷◌, ⊤, ℕ, Bool, false, List, length, Option, Some, None, IfSome, is_some}
use Rattle.std.specs.Prelude.{option_map, if◌then◌else◌}
use Rattle.std.specs.Option.{option_to_list}
use Rattle.std.specs.Str.{bytes_eq}
use Rattle.std.specs.List.{IsDistinct}
use Rattle.std.specs.List.Sorted.{IsPermutation}
use Rattle.std.specs.Map.{lookup, keys_of, values_of}
use Rattle.cube_core.specs.Amendment.{over}
use Rattle.cube_core.specs.Life.{id_of, is_delete}
use Rattle.cube_core.specs.declared.fact.Fact.{Fact}
use Rattle.cube_core.specs.declared.change.Change.{Change}
use Rattle.cube_core.specs.declared.change.Change.TheVariants.{Insert, Update, Amend, Upsert, Delete, Remove}
use Rattle.cube_ledger.specs.declared.book.Delta.{Delta}
use Rattle.cube_ledger.specs.declared.book.BookFault.{BookFault}
use Rattle.cube_ledger.specs.declared.book.BookFault.TheVariants.{Present, Absent, Memory}

-- ids, each with its fact; nothing speaks of their order
abbrev pub Entries : Type 0
Entries = List (List ℕ × Fact)

-- the fact under an id, if there is one
abbrev pub fact_at : Entries → List ℕ → Option Fact
fact_at book id = lookup (bytes_eq id) book

-- the ids of a book
abbrev pub ids_of : Entries → List (List ℕ)
ids_of book = keys_of book

-- the facts of a book
abbrev pub facts_of : Entries → List Fact
facts_of book = values_of book

-- no id stands twice
abbrev pub IsBook : Entries → Type 0
IsBook book = IsDistinct bytes_eq (ids_of book)

-- the new book has this fact under an id, or none, and under each other id what the old one has;
-- what was there is gone, and no id stands twice
pub record Replaces (old : Entries) (id : List ℕ) (gone come : Option Fact) (new : Entries) : Type 0 where
  pub was : gone ≡ fact_at old id
  pub facts : (other : List ℕ) → fact_at new other ≡ (if bytes_eq id other then come else fact_at old other)
  pub moved : IsPermutation (option_to_list come ++ facts_of old) (option_to_list gone ++ facts_of new)
  pub each_once : IsBook new

-- the new book has one entry more: this fact, under an id that was absent
pub record GainsEntry (old : Entries) (id : List ℕ) (fact : Fact) (new : Entries) : Type 0 where
  pub absent : fact_at old id ≡ None
  pub facts : (other : List ℕ) → fact_at new other ≡ (if bytes_eq id other then Some fact else fact_at old other)
  pub more : IsPermutation ((id, fact) ∷ old) new
  pub each_once : IsBook new

-- the fact that a change puts under its id, given the one that is there:
-- none where it is a delete or a removal, or an amendment of nothing
abbrev pub fact_put : Change → Option Fact → Option Fact
fact_put (Insert id fact) old = Some fact
fact_put (Update id fact) old = Some fact
fact_put (Amend id part) old = option_map (over part) old
fact_put (Upsert id fact) old = Some fact
fact_put (Delete id) old = None
fact_put (Remove id) old = None

-- why a book refuses a change of an id that is present or absent, if it does
abbrev pub refused_by_presence : Change → Bool → Option BookFault
refused_by_presence (Insert id fact) present = if present then Some Present else None
refused_by_presence (Update id fact) present = if present then None else Some Absent
refused_by_presence (Amend id part) present = if present then None else Some Absent
refused_by_presence (Upsert id fact) present = None
refused_by_presence (Delete id) present = if present then None else Some Absent
refused_by_presence (Remove id) present = None

-- why a book refuses a change, if it does
abbrev pub refused_by : Entries → Change → Option BookFault
refused_by book change = refused_by_presence change (is_some (fact_at book (id_of change)))

-- an amendment has as many fields as the fact under its id, where there is one
abbrev pub AmendsAlike : Entries → Change → Type 0
AmendsAlike book (Insert id fact) = ⊤
AmendsAlike book (Update id fact) = ⊤
AmendsAlike book (Amend id part) =
    IfSome (fact_at book id)
    (λ fact. (length part.dims ≡ length fact.dims) × (length part.measures ≡ length fact.measures))
AmendsAlike book (Upsert id fact) = ⊤
AmendsAlike book (Delete id) = ⊤
AmendsAlike book (Remove id) = ⊤

-- a book made a change: it isn't refused, and its fact or none stands under its id in place of what is gone
pub record Makes (old : Entries) (change : Change) (gone : Option Fact) (new : Entries) : Type 0 where
  pub lawful : refused_by old change ≡ None
  pub replaces : Replaces old (id_of change) gone (fact_put change (fact_at old (id_of change))) new

-- a book took a change: it isn't refused, and its fact or none stands under its id in place of what is gone
pub record Takes (old : Entries) (change : Change) (delta : Delta) (new : Entries) : Type 0 where
  pub lawful : refused_by old change ≡ None
  pub come : delta.come ≡ fact_put change (fact_at old (id_of change))
  pub replaces : Replaces old (id_of change) delta.gone delta.come new

-- a fault tells why a book refused a change; memory may run out for a change that isn't refused and takes no fact away
abbrev pub Explains : Entries → Change → BookFault → Type 0
Explains book change Present = refused_by book change ≡ Some Present
Explains book change Absent = refused_by book change ≡ Some Absent
Explains book change Memory = (refused_by book change ≡ None) × (is_delete change ≡ false)
