-- What adding and taking a fact does to cells that are kept by codes, at the keys of a list (this project's choice).
use Rattle.std.specs.Prelude.{◌≡◌, ◌+◌, ◌*◌, ◌<◌, ◌||◌, ◌^◌, ℕ, ℤ, Bool, true, false, nat_lt, List, length, map, sum_by}
use Rattle.std.specs.Prelude.{Option, Some, IsTrue, IsSome, IfSome}
use Rattle.std.specs.List.{list_any, IsDistinct}
use Rattle.std.specs.Map.{keys_of, set_value}
use Rattle.cube_cells.specs.Codes.{kept_codes}
use Rattle.cube_cells.specs.Coded.{CodedCells, same_codes, coded_at, is_total_code}
use Rattle.cube_cells.specs.Cube.{AddsAt, TakesAt, SameCell, cell_holds}
use Rattle.cube_cells.specs.Tally.{Tally, PlusFact}
use Rattle.cube_cells.specs.declared.cube.codes.Codes.{Codes}

-- the codes in the dimensions of a grouping set, and ALL in the others
abbrev pub key_in : Codes → ℕ → Codes
key_in codes set = record { codes = kept_codes set codes.codes }

-- the same for each of some grouping sets
abbrev pub codes_in : List ℕ → Codes → List Codes
codes_in sets codes = map (key_in codes) sets

-- whether codes are among those of a list
abbrev pub is_in : List Codes → Codes → Bool
is_in keys codes = list_any (same_codes codes) keys

-- the counts of the cells, each as often as its codes weigh
abbrev pub weight_of_cells : (Codes → ℕ) → CodedCells → ℕ
weight_of_cells weight cells = sum_by (λ cell. weight cell.0 * cell.1.facts) cells

-- each of these codes counts so many facts more:
-- however codes are weighed, the counts so weighed grow by what the codes weigh, times those facts
abbrev pub CountMore : ℕ → List Codes → CodedCells → CodedCells → Type 0
CountMore facts keys old new =
    (weight : Codes → ℕ) → weight_of_cells weight new ≡ weight_of_cells weight old + sum_by weight keys * facts

-- a fact can be added at codes: the cell there has a bag for each value, room for a fact,
-- and a fact unless it is the grand total, which is there
pub record HasRoom (values : List (Option ℤ)) (codes : Codes) (cell : Option Tally) : Type 0 where
  pub width : IfSome cell (λ t. length t.bags ≡ length values)
  pub room : IfSome cell (λ t. t.facts + 1 < 2 ^ 64)
  pub some : IfSome cell (λ t. IsTrue (is_total_code codes || nat_lt 0 t.facts))
  pub total : IsTrue (is_total_code codes) → IsSome cell

-- at each of the codes a fact is added, and every other cell stays as it was
pub record AddsIn (keys : List Codes) (values : List (Option ℤ)) (old new : CodedCells) : Type 0 where
  pub added : (codes : Codes) → is_in keys codes ≡ true → AddsAt values (coded_at old codes) (coded_at new codes)
  pub held : (codes : Codes) → is_in keys codes ≡ true → cell_holds values (coded_at new codes) ≡ true
  pub others : (codes : Codes) → is_in keys codes ≡ false → coded_at new codes ≡ coded_at old codes
  pub counts_more : CountMore 1 keys old new

-- at each of the codes a fact is taken, and every other cell stays as it was
pub record TakesIn (keys : List Codes) (values : List (Option ℤ)) (old new : CodedCells) : Type 0 where
  pub taken : (codes : Codes) → is_in keys codes ≡ true
      → TakesAt (is_total_code codes) values (coded_at old codes) (coded_at new codes)
  pub others : (codes : Codes) → is_in keys codes ≡ false → coded_at new codes ≡ coded_at old codes
  pub counts_less : CountMore 1 keys new old

-- at each of the codes a cell counts the same, and every other cell stays as it was
pub record SameCoded (keys : List Codes) (old new : CodedCells) : Type 0 where
  pub cells : (codes : Codes) → SameCell (coded_at old codes) (coded_at new codes)
  pub others : (codes : Codes) → is_in keys codes ≡ false → coded_at new codes ≡ coded_at old codes
  pub counts_same : CountMore 0 keys old new

-- the cell at codes has a fact less, and as many are left as the number says
pub record LosesFact (codes : Codes) (values : List (Option ℤ)) (old new : CodedCells) (count : ℕ) : Type 0 where
  pub tally : Tally
  pub left : Tally
  pub was_cell : coded_at old codes ≡ Some tally
  pub minus : PlusFact values left tally
  pub is_left : new ≡ set_value (same_codes codes) old left
  pub counts : count ≡ left.facts

-- the codes of the cells differ
abbrev pub AreApart : CodedCells → Type 0
AreApart cells = IsDistinct same_codes (keys_of cells)
