-- The rows of a cube that is kept up to date: those of the cells whose keys pass a test (Gray et al. 1997).
use Rattle.std.specs.Prelude.{◌≡◌, ◌==◌, ◌&&◌, ◌↔◌, ℕ, Bool, true, false, not, Option, Some, None, Result, Ok, Err}
use Rattle.std.specs.Prelude.{get_or, ◌<◌, List, [], ◌∷◌, length, map, Contains, All, IsTrue, IsSome, IfSome}
use Rattle.std.specs.List.{AllZip}
use Rattle.std.specs.List.Sorted.{IsStrictlySortedBy}
use Rattle.cube_core.specs.Answer.{AreAnswers}
use Rattle.cube_core.specs.Cube.{is_cell, key_of, HasAnswers}
use Rattle.cube_core.specs.Order.{key_cmp}
use Rattle.cube_core.specs.Query.{Wanted}
use Rattle.cube_core.specs.declared.aggregate.Agg.{Agg}
use Rattle.cube_core.specs.declared.aggregate.Answer.{Answer}
use Rattle.cube_core.specs.declared.fact.Fact.{Fact}
use Rattle.cube_core.specs.declared.key.Coord.{Coord}
use Rattle.cube_core.specs.declared.key.Coord.TheVariants as coord
use Rattle.cube_core.specs.declared.key.Key.{Key}
use Rattle.cube_core.specs.declared.key.Row.{Row}
use Rattle.cube_core.specs.declared.query.QueryFault.{QueryFault}
use Rattle.cube_core.specs.declared.query.QueryFault.TheVariants.{Memory}
use Rattle.cube_cells.specs.Codes.{Dictionaries, IsCodeOf, are_codes, key_at, all_code}
use Rattle.cube_cells.specs.Cube.{Cells, cell_at}
use Rattle.cube_cells.specs.Tally.{Tally, IsTallyOf}
use Rattle.cube_cells.specs.declared.cube.rows.Want.{Want}
use Rattle.cube_cells.specs.declared.cube.rows.Want.TheVariants as want

-- the answers of a tally: those of any facts that it is the tally of
abbrev pub AreAnswersOf : List Agg → Tally → List Answer → Type 0
AreAnswersOf aggregates t answers = (facts : List Fact) → IsTallyOf facts t → AreAnswers facts aggregates answers

-- the row of a cell: its key, and the answers of its tally
pub record IsRowOf (aggregates : List Agg) (cell : Key × Tally) (row : Row) : Type 0 where
  pub key : row.key ≡ cell.0
  pub answers : AreAnswersOf aggregates cell.1 row.answers

-- cells in an order, with the aggregates that their rows answer
pub record CellsInOrder : Type 0 where
  pub aggregates : List Agg
  pub cells : Cells

-- the rows of cells, one for each, in their order
abbrev pub AreRowsInOrder : CellsInOrder → List Row → Type 0
AreRowsInOrder o rows = AllZip (IsRowOf o.aggregates) o.cells rows

-- these are the rows of the cells whose key passes a test: each once, in key order, with the answers of its tally
pub record AreRowsOf (test : Key → Bool) (aggregates : List Agg) (cells : Cells) (rows : List Row) : Type 0 where
  pub keys : (key : Key) → Contains (map key_of rows) key ↔ (IsSome (cell_at cells key) × IsTrue (test key))
  pub ordered : IsStrictlySortedBy key_cmp (map key_of rows)
  pub answers : All (λ row. IfSome (cell_at cells row.key) (λ t. AreAnswersOf aggregates t row.answers)) rows

-- the row of a key's cell, or none where the key is no cell
abbrev pub IsRowAt : List Agg → Cells → Key → Option Row → Type 0
IsRowAt aggregates cells key None = cell_at cells key ≡ None
IsRowAt aggregates cells key (Some row) = (t : Tally) × (cell_at cells key ≡ Some t) × IsRowOf aggregates (key, t) row

-- the row of a key of the cube over these grouping sets, or none where the key is no cell
abbrev pub IsRowOver : List ℕ → ℕ → List Agg → List Fact → Key → Option Row → Type 0
IsRowOver sets dimensions aggregates facts key None = is_cell sets dimensions facts key ≡ false
IsRowOver sets dimensions aggregates facts key (Some row) =
    (is_cell sets dimensions facts key ≡ true) × (row.key ≡ key) × HasAnswers aggregates facts row

-- a query is refused for this fault, or gives what is said of its value where there is none; else memory ran out
abbrev pub GivesUnless : {T : Type 0} → Option QueryFault → (T → Type 0) → Result T QueryFault → Type 0
GivesUnless (Some fault) Holds result = result ≡ Err fault
GivesUnless None Holds (Ok value) = Holds value
GivesUnless None Holds (Err fault) = fault ≡ Memory

-- whether a code is wanted
abbrev pub is_wanted_code : Want → ℕ → Bool
is_wanted_code want.Any code = true
is_wanted_code (want.Code wanted) code = code == wanted
is_wanted_code (want.Not unwanted) code = not (code == unwanted)

-- whether each code is wanted, as far as both lists go
abbrev pub are_wanted_codes : List Want → List ℕ → Bool
are_wanted_codes [] codes = true
are_wanted_codes (w ∷ wants) [] = true
are_wanted_codes (w ∷ wants) (code ∷ codes) = is_wanted_code w code && are_wanted_codes wants codes

-- codes are wanted where their key passes a test
abbrev pub AreWantsOf : Dictionaries → (Key → Bool) → List Want → Type 0
AreWantsOf dictionaries test wants = (codes : List ℕ) → are_codes dictionaries codes ≡ true → length codes ≡ 8
    → are_wanted_codes wants codes ≡ test (key_at dictionaries codes)

-- what is wanted of the codes of a dimension: any but ALL where it is open, else the code of this coordinate alone
abbrev pub IsWantBelow : List (List ℕ) → Coord → Bool → Want → Type 0
IsWantBelow texts c true w = w ≡ want.Not all_code
IsWantBelow texts c false w = (code : ℕ) × (w ≡ want.Code code) × IsCodeOf texts c code

-- what is wanted of the codes of keys that drill down from these coordinates along a dimension
pub record AreWantsBelow (dictionaries : Dictionaries) (dimension : ℕ) (coords : List Coord) (wants : List Want)
    : Type 0 where
  pub each : (i : ℕ) → i < length wants
      → IsWantBelow (get_or dictionaries i []) (get_or coords i coord.All) (i == dimension) (get_or wants i want.Any)

-- what is wanted of the codes of a dimension: any where a pattern leaves it open, else the code of its coordinate alone
abbrev pub IsWantMatched : List (List ℕ) → Option Coord → Want → Type 0
IsWantMatched texts None w = w ≡ want.Any
IsWantMatched texts (Some c) w = (code : ℕ) × (w ≡ want.Code code) × IsCodeOf texts c code

-- what is wanted of the codes of keys that a pattern matches
pub record AreWantsMatched (dictionaries : Dictionaries) (pattern : Wanted) (wants : List Want) : Type 0 where
  pub each : (i : ℕ) → i < length wants
      → IsWantMatched (get_or dictionaries i []) (get_or pattern i None) (get_or wants i want.Any)
