-- Queries of a cube: patterns of keys and the words that spell them, roll-up and drill-down along a dimension (Gray et
-- al. 1997: rolling up replaces the values of a dimension by ALL; the words are this project's choice).
use Rattle.std.specs.Prelude.{◌≡◌, ◌==◌, ◌&&◌, ◌↔◌, ◌+◌, ◌^◌, ⊤, ℕ, Bool, true, false, not, if◌then◌else◌, IsTrue, List}
use Rattle.std.specs.Prelude.{[], ◌∷◌, length, map, filter, find, Contains, codes, position, Option, Some, None}
use Rattle.std.specs.Prelude.{is_some, Result, Ok, Err, slice_set}
use Rattle.std.specs.Str.{bytes_eq, is_utf8}
use Rattle.std.specs.Option.{option_map_or, ok_or}
use Rattle.std.specs.List.{AllByRecursion, list_all, filter_map}
use Rattle.std.specs.List.Sorted.{IsStrictlySortedBy}
use Rattle.std.specs.Ordering.{eq_by_cmp}
use Rattle.cube_core.specs.Cube.{is_cell, key_of, HasAnswers}
use Rattle.cube_core.specs.Layout.{Layout, cube_dimensions, number_of_dimensions}
use Rattle.cube_core.specs.Records.{records_of}
use Rattle.cube_core.specs.Takes.{null_text}
use Rattle.cube_core.specs.Order.{coord_cmp, key_cmp}
use Rattle.cube_core.specs.GroupingSet.{is_all_at, mask_of, is_among}
use Rattle.cube_core.specs.declared.aggregate.Agg.{Agg}
use Rattle.cube_core.specs.declared.fact.Fact.{Fact}
use Rattle.cube_core.specs.declared.key.Coord.{Coord}
use Rattle.cube_core.specs.declared.key.Coord.TheVariants as coord
use Rattle.cube_core.specs.declared.key.Key.{Key}
use Rattle.cube_core.specs.declared.key.Row.{Row}
use Rattle.cube_core.specs.declared.query.QueryFault.{QueryFault}
use Rattle.cube_core.specs.declared.query.QueryFault.TheVariants.{Fields, Field, NotCell, NotRolled, UnknownDimension}
use Rattle.cube_core.specs.declared.query.QueryFault.TheVariants.{Memory, NotGrouped}

-- what may be answered to a query: what is said of it, or that memory ran out
abbrev pub Says : {T : Type 0} → Result T QueryFault → Result T QueryFault → Type 0
Says said (Err Memory) = ⊤
Says said answer = answer ≡ said

-- the place of the dimension that has this name
abbrev pub place_of : Layout → List ℕ → Result ℕ QueryFault
place_of s name = ok_or (position (λ dimension. bytes_eq dimension name) (cube_dimensions s)) UnknownDimension

-- a pattern: for each dimension the coordinate that is wanted, or none where any will do
abbrev pub Wanted : Type 0
Wanted = List (Option Coord)

-- how a pattern's field writes any coordinate, and how it writes ALL
abbrev pub any_text : List ℕ
any_text = codes "?"

abbrev pub all_text : List ℕ
all_text = codes "\\A"

-- the text that follows `=`, where a field has that form
abbrev pub named_by : List ℕ → Option (List ℕ)
named_by [] = None
named_by (first ∷ text) = if (first == 61) && is_utf8 text then Some text else None

-- the coordinate that a field wants, or none for any, where it has one of the four forms:
-- `?`, `\A`, `\N`, or `=` followed by a text
abbrev pub wanted_by : List ℕ → Option (Option Coord)
wanted_by field =
    if bytes_eq field any_text then Some None
    else if bytes_eq field all_text then Some (Some coord.All)
    else if bytes_eq field null_text then Some (Some coord.Null)
    else option_map_or (λ text. Some (Some (coord.Text text))) (named_by field) None

-- the pattern that fields spell: each of them has one of the four forms
abbrev pub spelled_by : List (List ℕ) → Result Wanted QueryFault
spelled_by fields =
    if list_all (λ field. is_some (wanted_by field)) fields then Ok (filter_map wanted_by fields) else Err Field

-- the pattern that a record spells under a schema: it has a field for each dimension
abbrev pub spelled_under : Layout → List (List ℕ) → Result Wanted QueryFault
spelled_under s fields = if length fields == number_of_dimensions s then spelled_by fields else Err Fields

-- the one element of a list, where there is exactly one
abbrev pub only_one : {X : Type 0} → List X → Option X
only_one [] = None
only_one (x ∷ []) = Some x
only_one (_ ∷ _ ∷ _) = None

-- the pattern that a word spells under a schema: it is exactly one record
abbrev pub pattern_of : Layout → List ℕ → Result Wanted QueryFault
pattern_of s word = option_map_or (spelled_under s) (only_one (records_of word)) (Err Fields)

-- the key that a pattern is: a coordinate is wanted in each dimension
abbrev pub cell_of : Wanted → Result Key QueryFault
cell_of pattern =
    if list_all is_some pattern then Ok (record { coords = filter_map (λ wanted. wanted) pattern }) else Err NotCell

-- whether a coordinate is the one that is wanted; any is where none is, ALL and null too
abbrev pub is_wanted : Option Coord → Coord → Bool
is_wanted None c = true
is_wanted (Some wanted) c = eq_by_cmp coord_cmp wanted c

-- whether there are as many coordinates as a pattern has fields, and each is the one that is wanted
abbrev pub all_wanted : Wanted → List Coord → Bool
all_wanted [] [] = true
all_wanted [] (_ ∷ _) = false
all_wanted (_ ∷ _) [] = false
all_wanted (wanted ∷ pattern) (c ∷ coords) = is_wanted wanted c && all_wanted pattern coords

-- whether a pattern matches a key
abbrev pub matches : Wanted → Key → Bool
matches pattern key = all_wanted pattern key.coords

-- the row of a key, where there is one
abbrev pub row_at : Key → List Row → Option Row
row_at key rows = find (λ row. eq_by_cmp key_cmp row.key key) rows

-- a key with ALL in a dimension, and otherwise the same
abbrev pub rolled_up : ℕ → Key → Key
rolled_up dimension key = record { coords = slice_set key.coords dimension coord.All }

-- whether a key drills down from another along a dimension: it isn't ALL in it, and rolled up it is the other
abbrev pub drills_down : ℕ → Key → Key → Bool
drills_down dimension above key = not (is_all_at key dimension) && eq_by_cmp key_cmp (rolled_up dimension key) above

-- the rows whose keys drill down from a key along a dimension
abbrev pub rows_below : ℕ → Key → List Row → List Row
rows_below dimension above rows = filter (λ row. drills_down dimension above row.key) rows

-- why there is no drill-down from a key along a dimension, over the grouping sets that are kept:
-- the key isn't ALL in it, or the key's set with the dimension isn't one of them
abbrev pub drill_fault : List ℕ → ℕ → Key → Option QueryFault
drill_fault sets dimension key =
    if not (is_all_at key dimension) then Some NotRolled
    else if not (is_among (mask_of key + 2 ^ dimension) sets) then Some NotGrouped
    else None

-- these are the rows of the cube over these grouping sets whose key passes a test:
-- each once, in key order, with the answers of its group
pub record AreRowsWhere (test : Key → Bool) (sets : List ℕ) (dimensions : ℕ) (aggregates : List Agg) (facts : List Fact)
    (rows : List Row) : Type 0 where
  pub cells : (key : Key)
      → Contains (map key_of rows) key ↔ (IsTrue (is_cell sets dimensions facts key) × IsTrue (test key))
  pub ordered : IsStrictlySortedBy key_cmp (map key_of rows)
  pub answers : AllByRecursion (HasAnswers aggregates facts) rows
