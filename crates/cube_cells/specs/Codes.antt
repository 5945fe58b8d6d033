-- Codes for the coordinates of a key:
-- ALL, null, or the place of a text in the dictionary of its dimension (this project's choice).
use Rattle.std.specs.Prelude.{◌≡◌, ◌≤◌, ◌==◌, ◌&&◌, ◌||◌, ◌%◌, ◌/◌, ◌↔◌, ◌++◌, ℕ, Bool, true, false, nat_lt, List, []}
use Rattle.std.specs.Prelude.{◌∷◌, length, get_or, Option, Some, None, if◌then◌else◌, IsTrue}
use Rattle.std.specs.List.{list_all}
use Rattle.cube_core.specs.Layout.{is_listed, are_distinct}
use Rattle.cube_core.specs.declared.key.Coord.{Coord}
use Rattle.cube_core.specs.declared.key.Coord.TheVariants as coord
use Rattle.cube_core.specs.declared.key.Key.{Key}

-- the texts of each dimension, in the order in which they came
abbrev pub Dictionaries : Type 0
Dictionaries = List (List (List ℕ))

-- the code of ALL
abbrev pub all_code : ℕ
all_code = 4294967295

-- the code of null
abbrev pub null_code : ℕ
null_code = 4294967294

-- the code of a text that isn't in the dictionary; no cell has it
abbrev pub no_code : ℕ
no_code = 4294967293

-- the texts of a dimension differ, and there is a code for each
pub record IsDictionary (texts : List (List ℕ)) : Type 0 where
  pub distinct : are_distinct texts ≡ true
  pub few : length texts ≤ 4294967293

-- whether this is a code of the dimension with these texts
abbrev pub is_code : List (List ℕ) → ℕ → Bool
is_code texts code = (code == all_code) || (code == null_code) || nat_lt code (length texts)

-- whether these are codes of dimensions with these texts, and ALL past the last
abbrev pub are_codes : Dictionaries → List ℕ → Bool
are_codes [] codes = list_all (λ code. code == all_code) codes
are_codes (texts ∷ dictionaries) [] = false
are_codes (texts ∷ dictionaries) (code ∷ codes) = is_code texts code && are_codes dictionaries codes

-- the coordinate of a code
abbrev pub coord_at : List (List ℕ) → ℕ → Coord
coord_at texts code =
    if code == all_code then coord.All
    else (if code == null_code then coord.Null else coord.Text (get_or texts code []))

-- the coordinates of codes, one for each dimension
abbrev pub coords_at : Dictionaries → List ℕ → List Coord
coords_at [] codes = []
coords_at (texts ∷ dictionaries) [] = coord.All ∷ coords_at dictionaries []
coords_at (texts ∷ dictionaries) (code ∷ codes) = coord_at texts code ∷ coords_at dictionaries codes

-- the key of codes
abbrev pub key_at : Dictionaries → List ℕ → Key
key_at dictionaries codes = record { coords = coords_at dictionaries codes }

-- the codes in the dimensions of a grouping set, and ALL in the others
abbrev pub kept_codes : ℕ → List ℕ → List ℕ
kept_codes set [] = []
kept_codes set (code ∷ codes) = (if set % 2 == 1 then code else all_code) ∷ kept_codes (set / 2) codes

-- of all codes of a dimension this one alone stands for the coordinate; for a text that isn't there none does
pub record IsCodeOf (texts : List (List ℕ)) (c : Coord) (code : ℕ) : Type 0 where
  pub alone : (other : ℕ) → IsTrue (is_code texts other) → (coord_at texts other ≡ c) ↔ (other ≡ code)

-- these are codes of coordinates, one for each dimension, and ALL past the last
abbrev pub AreCodesOf : Dictionaries → List Coord → List ℕ → Type 0
AreCodesOf [] [] codes = list_all (λ code. code == all_code) codes ≡ true
AreCodesOf [] (c ∷ coords) codes = ⊥
AreCodesOf (texts ∷ dictionaries) [] codes = ⊥
AreCodesOf (texts ∷ dictionaries) (c ∷ coords) [] = ⊥
AreCodesOf (texts ∷ dictionaries) (c ∷ coords) (code ∷ codes) =
    IsCodeOf texts c code × AreCodesOf dictionaries coords codes

-- the coordinate of a value or of null
abbrev pub coord_of_value : Option (List ℕ) → Coord
coord_of_value None = coord.Null
coord_of_value (Some text) = coord.Text text

-- the texts with that of a value, which goes last where it isn't there
abbrev pub texts_with : Option (List ℕ) → List (List ℕ) → List (List ℕ)
texts_with None texts = texts
texts_with (Some text) texts = if is_listed text texts then texts else texts ++ text ∷ []
