-- The words of the laws on feeds: how a feed writes changes (this project's choice of a change feed).
use Rattle.std.specs.Prelude.{◌≡◌, ◌≢◌, ◌+◌, ◌||◌, ⊤, ℕ, ℤ, Bool, true, false, List, [], ◌∷◌, ◌++◌, map, codes, Option, Some}
use Rattle.std.specs.Prelude.{None, IfSome, FitsSigned, Ok}
use Rattle.std.specs.Fmt.{signed_decimal}
use Rattle.std.specs.Int.{w64}
use Rattle.std.specs.List.{AllByRecursion, list_any}
use Rattle.std.specs.Str.{is_utf8}
use Rattle.cube_core.specs.Layout.{Layout}
use Rattle.cube_core.specs.Takes.{takes}
use Rattle.cube_core.specs.declared.change.Change.{Change}
use Rattle.cube_core.specs.declared.change.Change.TheVariants.{Insert, Update, Amend, Upsert, Delete, Remove}
use Rattle.cube_core.specs.declared.change.Item.{Item}
use Rattle.cube_core.specs.declared.partial.Field.{Field}
use Rattle.cube_core.specs.declared.partial.Field.TheVariants.{Keep, Put}

-- how a feed writes a value of a dimension: its text, or `\N` for null
abbrev pub dimension_text : Option (List ℕ) → List ℕ
dimension_text None = codes "\\N"
dimension_text (Some text) = text

-- how it writes a value of a measure: the number, or `\N` for null
abbrev pub measure_text : Option ℤ → List ℕ
measure_text None = codes "\\N"
measure_text (Some value) = signed_decimal value

-- how it writes a field of an amendment: the value that is put, or `\=` where it is kept
abbrev pub put_text : {A : Type 0} → (A → List ℕ) → Field A → List ℕ
put_text text Keep = codes "\\="
put_text text (Put value) = text value

-- the record of an operation on an id, with fields for the dimensions and for the measures
abbrev pub record_with : List ℕ → List ℕ → List (List ℕ) → List (List ℕ) → List (List ℕ)
record_with operation id dimensions measures = operation ∷ id ∷ dimensions ++ measures

-- the record that spells a change: `I`, `U`, `D`, `P` or `R`, the id, and the fields of its fact or its amendment
abbrev pub record_for : Change → List (List ℕ)
record_for (Insert id fact) =
    record_with (codes "I") id (map dimension_text fact.dims) (map measure_text fact.measures)
record_for (Update id fact) =
    record_with (codes "U") id (map dimension_text fact.dims) (map measure_text fact.measures)
record_for (Amend id part) =
    record_with (codes "U") id (map (put_text dimension_text) part.dims) (map (put_text measure_text) part.measures)
record_for (Upsert id fact) =
    record_with (codes "P") id (map dimension_text fact.dims) (map measure_text fact.measures)
record_for (Delete id) = codes "D" ∷ id ∷ []
record_for (Remove id) = codes "R" ∷ id ∷ []

-- the header of a schema's feeds
abbrev pub header_for : Layout → List (List ℕ)
header_for s = record_with (codes "op") (codes "id") s.dimensions s.measures

-- a value can stand in a dimension's field: its text is UTF-8, and no field of version 2 that puts it is the one that keeps
abbrev pub HasField : Layout → Option (List ℕ) → Type 0
HasField s None = ⊤
HasField s (Some text) = (is_utf8 text ≡ true) × (s.version ≡ 2 → text ≢ codes "\\=")

-- a value of a measure has 64 bits
abbrev pub HasNumber : Option ℤ → Type 0
HasNumber value = IfSome value (FitsSigned w64)

-- what a field puts is such a value
abbrev pub Puts : {A : Type 0} → (A → Type 0) → Field A → Type 0
Puts can Keep = ⊤
Puts can (Put value) = can value

-- whether a field keeps its value
abbrev pub is_kept : {A : Type 0} → Field A → Bool
is_kept Keep = true
is_kept (Put value) = false

-- a feed can write a change: its id is UTF-8, its values have fields, and an amendment keeps one value at least, since one that
-- keeps none is written as the update is
abbrev pub HasRecord : Layout → Change → Type 0
HasRecord s (Insert id fact) =
    (is_utf8 id ≡ true) × AllByRecursion (HasField s) fact.dims × AllByRecursion HasNumber fact.measures
HasRecord s (Update id fact) =
    (is_utf8 id ≡ true) × AllByRecursion (HasField s) fact.dims × AllByRecursion HasNumber fact.measures
HasRecord s (Amend id part) =
    (is_utf8 id ≡ true) × AllByRecursion (Puts (HasField s)) part.dims
    × AllByRecursion (Puts HasNumber) part.measures
    × (list_any is_kept part.dims || list_any is_kept part.measures ≡ true)
HasRecord s (Upsert id fact) =
    (is_utf8 id ≡ true) × AllByRecursion (HasField s) fact.dims × AllByRecursion HasNumber fact.measures
HasRecord s (Delete id) = is_utf8 id ≡ true
HasRecord s (Remove id) = is_utf8 id ≡ true

-- a change that a schema takes and its feeds can write
pub record CanBeSpelled (s : Layout) (change : Change) : Type 0 where
  pub taken : takes s change ≡ true
  pub has_record : HasRecord s change

-- the items that say these changes, numbered from a number on
abbrev pub numbered : ℕ → List Change → List Item
numbered number [] = []
numbered number (change ∷ changes) = record { number = number; what = Ok change } ∷ numbered (number + 1) changes
