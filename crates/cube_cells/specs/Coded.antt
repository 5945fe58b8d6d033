-- The cells as they are kept: by codes in place of keys (this project's choice).
use Rattle.std.specs.Prelude.{◌≡◌, ◌||◌, ◌==◌, ℕ, Bool, true, false, nat_lt, nat_eq, List, [], ◌∷◌, length, map}
use Rattle.std.specs.Prelude.{replicate, Option, IsTrue, IsSome, All}
use Rattle.std.specs.List.{IsDistinct, list_all}
use Rattle.std.specs.Cmp.Lexicographic.{pointwise}
use Rattle.std.specs.Map.{lookup, keys_of}
use Rattle.cube_core.specs.GroupingSet.{is_among}
use Rattle.cube_core.specs.Layout.{Layout}
use Rattle.cube_cells.specs.Codes.{Dictionaries, IsDictionary, are_codes, key_at, all_code}
use Rattle.cube_cells.specs.Cube.{Cells, Lattice, IsLattice, count_in}
use Rattle.cube_cells.specs.Tally.{Tally, IsTallyOf}
use Rattle.cube_cells.specs.declared.cube.codes.Codes.{Codes}

-- cells, each by the codes of its key
abbrev pub CodedCells : Type 0
CodedCells = List (Codes × Tally)

-- whether codes are the same
abbrev pub same_codes : Codes → Codes → Bool
same_codes a b = pointwise nat_eq a.codes b.codes

-- the tally of the cell with these codes
abbrev pub coded_at : CodedCells → Codes → Option Tally
coded_at cells codes = lookup (same_codes codes) cells

-- the cells by their keys
abbrev pub decoded : Dictionaries → CodedCells → Cells
decoded dictionaries cells = map (λ cell. (key_at dictionaries cell.0.codes, cell.1)) cells

-- whether codes are those of the grand total
abbrev pub is_total_code : Codes → Bool
is_total_code codes = list_all (λ code. code == all_code) codes.codes

-- what is true of a cell: its codes are of the dimensions, it has a bag for each measure,
-- and a fact unless it is the grand total
pub record IsCodedCell (dictionaries : Dictionaries) (measures : ℕ) (cell : Codes × Tally) : Type 0 where
  pub codes : are_codes dictionaries cell.0.codes ≡ true
  pub eight : length cell.0.codes ≡ 8
  pub width : length cell.1.bags ≡ measures
  pub some : IsTrue (is_total_code cell.0 || nat_lt 0 cell.1.facts)

-- the codes of the grand total
abbrev pub total_codes : Codes
total_codes = record { codes = replicate 8 all_code }

-- the lattice of what is kept
abbrev pub lattice_of : Layout → List ℕ → ℕ → Dictionaries → CodedCells → Lattice
lattice_of schema sets facts dictionaries cells = record {
  schema = schema;
  sets = sets;
  facts = facts;
  dictionaries = dictionaries;
  cells = decoded dictionaries cells;
}

-- what is true of the cells as they are kept
pub record IsCoded (schema : Layout) (sets : List ℕ) (facts : ℕ) (dictionaries : Dictionaries) (cells : CodedCells)
    : Type 0 where
  pub lattice : IsLattice (lattice_of schema sets facts dictionaries cells)
  pub texts : All IsDictionary dictionaries
  pub distinct : IsDistinct same_codes (keys_of cells)
  pub each : All (IsCodedCell dictionaries (length schema.measures)) cells
  pub total : IsTrue (is_among 0 sets) → IsSome (coded_at cells total_codes)
  pub counts : (set : ℕ) → IsTrue (is_among set sets) → count_in set (decoded dictionaries cells) ≡ facts

-- the cells of no fact: the grand total where it is kept, and no other
pub record AreNewCells (has_total : Bool) (measures : ℕ) (cells : CodedCells) : Type 0 where
  pub none : has_total ≡ false → cells ≡ []
  pub total : has_total ≡ true
      → (t : Tally) × (cells ≡ (total_codes, t) ∷ []) × IsTallyOf [] t × (length t.bags ≡ measures)
