-- The cells of one cube merged into those of another: its texts get codes in the other's dictionaries,
-- and its cells have these (this project's choice).
use Rattle.std.specs.Prelude.{◌≡◌, ◌<◌, ◌++◌, ℕ, true, List, [], ◌∷◌, length, map, get_or, Option, Some}
use Rattle.cube_cells.specs.Codes.{Dictionaries, IsCodeOf, IsDictionary, coord_at, coord_of_value, is_code, texts_with}
use Rattle.cube_cells.specs.Coded.{CodedCells}
use Rattle.cube_cells.specs.declared.cube.codes.Codes.{Codes}
use Rattle.cube_cells.specs.declared.cube.merged.Column.{Column}

-- this is the code of a value, or of null, in a dimension with these texts
pub record IsCodeIn (texts : List (List ℕ)) (value : Option (List ℕ)) (code : ℕ) : Type 0 where
  pub valid : is_code texts code ≡ true
  pub stands : coord_at texts code ≡ coord_of_value value

-- the code of one value more stands last, and its text is there
pub record PutsCode (value : Option (List ℕ)) (old new : Column) : Type 0 where
  pub code : ℕ
  pub codes_are : new.codes.items ≡ old.codes.items ++ code ∷ []
  pub texts : new.dictionary ≡ texts_with value old.dictionary
  pub dictionary : IsDictionary new.dictionary
  pub valid : is_code new.dictionary code ≡ true
  pub alone : IsCodeOf new.dictionary (coord_of_value value) code

-- the texts of each dimension
abbrev pub dictionaries_of : List Column → Dictionaries
dictionaries_of columns = map (λ column. column.dictionary) columns

-- a column has old texts at their places, and the code of each of others
pub record IsRecoded (old more : List (List ℕ)) (column : Column) : Type 0 where
  pub dictionary : IsDictionary column.dictionary
  pub grown : (texts : List (List ℕ)) × (column.dictionary ≡ old ++ texts)
  pub long : length column.codes.items ≡ length more
  pub each : (place : ℕ) → place < length more
      → IsCodeIn column.dictionary (Some (get_or more place [])) (get_or column.codes.items place 0)

-- there is such a column for each dimension
pub record AreRecoded (old more : Dictionaries) (columns : List Column) : Type 0 where
  pub long : length columns ≡ length old
  pub each : (d : ℕ) (unused : Column) → d < length old
      → IsRecoded (get_or old d []) (get_or more d []) (get_or columns d unused)

-- codes with the code that the column of their dimension has in the place of each; null and ALL stay
abbrev pub recoded_codes : List Column → List ℕ → List ℕ
recoded_codes [] codes = codes
recoded_codes (column ∷ columns) [] = []
recoded_codes (column ∷ columns) (code ∷ codes) =
    get_or column.codes.items code code ∷ recoded_codes columns codes

abbrev pub recoded : List Column → Codes → Codes
recoded columns codes = record { codes = recoded_codes columns codes.codes }

-- cells under such codes
abbrev pub recoded_cells : List Column → CodedCells → CodedCells
recoded_cells columns cells = map (λ cell. (recoded columns cell.0, cell.1)) cells
