-- The words of the laws on the life of an id (Gray et al. 1997, section 6;
-- an id is present from an insert to a delete: this project's choice).
use Rattle.std.specs.Prelude.{◌≡◌, ℕ, ℤ, Bool, false, List, [], ◌∷◌, map, Option, Some, None, slice_get}
use Rattle.std.specs.Prelude.{option_and_then}
use Rattle.std.specs.Str.{bytes_eq}
use Rattle.std.specs.List.{list_any, filter_map, cons_option, fold}
use Rattle.cube_core.specs.Life.{life_of}
use Rattle.cube_core.specs.declared.fact.Fact.{Fact}
use Rattle.cube_core.specs.declared.change.Change.{Change}
use Rattle.cube_core.specs.declared.change.Change.TheVariants.{Insert, Update, Amend, Upsert, Delete, Remove}
use Rattle.cube_core.specs.declared.partial.Field.{Field}
use Rattle.cube_core.specs.declared.partial.Field.TheVariants.{Keep, Put}
use Rattle.cube_core.specs.declared.partial.Partial.{Partial}

-- whether a change inserts an id, or upserts it
abbrev pub is_insert_of : List ℕ → Change → Bool
is_insert_of id (Insert named fact) = bytes_eq id named
is_insert_of id (Update named fact) = false
is_insert_of id (Amend named part) = false
is_insert_of id (Upsert named fact) = bytes_eq id named
is_insert_of id (Delete named) = false
is_insert_of id (Remove named) = false

-- whether a list of changes inserts an id, or upserts it
abbrev pub inserts : List ℕ → List Change → Bool
inserts id changes = list_any (is_insert_of id) changes

-- an id is absent after a list of changes
abbrev pub IsAbsent : List ℕ → List Change → Type 0
IsAbsent id changes = life_of id changes ≡ None

-- an id is present with this fact after a list of changes
abbrev pub IsPresentWith : List ℕ → List Change → Fact → Type 0
IsPresentWith id changes fact = life_of id changes ≡ Some fact

-- the amendment that keeps every field of a fact
abbrev pub keeping : Fact → Partial
keeping fact = record { dims = map (λ value. Keep) fact.dims; measures = map (λ value. Keep) fact.measures }

-- the amendment that puts every field of a fact
abbrev pub putting : Fact → Partial
putting fact = record { dims = map Put fact.dims; measures = map Put fact.measures }

-- what a field of an amendment puts, if it isn't kept
abbrev pub value_put : {A : Type 0} → Field A → Option A
value_put Keep = None
value_put (Put value) = Some value

-- what a change puts at a place of the dimensions, or of the measures, of a present id; an insert puts nothing there
abbrev pub put_at : {A : Type 0} → (Fact → List A) → (Partial → List (Field A)) → ℕ → Change → Option A
put_at values fields place (Insert id fact) = None
put_at values fields place (Update id fact) = slice_get (values fact) place
put_at values fields place (Amend id part) = option_and_then value_put (slice_get (fields part) place)
put_at values fields place (Upsert id fact) = slice_get (values fact) place
put_at values fields place (Delete id) = None
put_at values fields place (Remove id) = None

-- what is put at a place from the first insert or upsert on, later inserts excepted
abbrev pub puts_at : {A : Type 0} → (Fact → List A) → (Partial → List (Field A)) → ℕ → List Change → List A
puts_at values fields place [] = []
puts_at values fields place (Insert id fact ∷ changes) =
    cons_option (slice_get (values fact) place) (filter_map (put_at values fields place) changes)
puts_at values fields place (Update id fact ∷ changes) = puts_at values fields place changes
puts_at values fields place (Amend id part ∷ changes) = puts_at values fields place changes
puts_at values fields place (Upsert id fact ∷ changes) =
    cons_option (slice_get (values fact) place) (filter_map (put_at values fields place) changes)
puts_at values fields place (Delete id ∷ changes) = puts_at values fields place changes
puts_at values fields place (Remove id ∷ changes) = puts_at values fields place changes

-- what is put in a dimension, and in a measure
abbrev pub dimension_puts : ℕ → List Change → List (Option (List ℕ))
dimension_puts place changes = puts_at (λ fact. fact.dims) (λ part. part.dims) place changes

abbrev pub measure_puts : ℕ → List Change → List (Option ℤ)
measure_puts place changes = puts_at (λ fact. fact.measures) (λ part. part.measures) place changes

-- the last item of a list, if it has one
abbrev pub last_of : {A : Type 0} → List A → Option A
last_of items = fold (λ seen item. Some item) None items
