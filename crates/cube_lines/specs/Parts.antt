-- The text of fields each ended by a comma,
-- as a line stands in memory before its last comma becomes its end (this project's choice).
use Rattle.std.specs.Prelude.{◌≡◌, ◌∷◌, [], ◌++◌, ℕ, List, map}
use Rattle.std.specs.List.{flat_map}
use Rattle.csv.specs.Writing.{default_writer, field_text}
use Rattle.cube_core.specs.Text.{coord_text, grouping_text}
use Rattle.cube_core.specs.declared.key.Key.{Key}

-- a field's text and a comma
abbrev pub part : List ℕ → List ℕ
part field = field_text default_writer field ++ 44 ∷ []

-- the texts of fields, each with a comma
abbrev pub parts : List (List ℕ) → List ℕ
parts fields = flat_map part fields

-- the texts of fields were put at the end of a text, each with a comma
abbrev pub AddsParts : List (List ℕ) → List ℕ → List ℕ → Type 0
AddsParts fields old new = new ≡ old ++ parts fields

-- the texts of what a row shows of its key: its dimensions and their GROUPING columns, each with a comma
abbrev pub key_parts : Key → List ℕ
key_parts key = parts (map coord_text key.coords ++ map grouping_text key.coords)

-- what a line's end does to a text that ends with a comma
abbrev pub EndsLine : List ℕ → List ℕ → Type 0
EndsLine old new = (fields : List ℕ) → old ≡ fields ++ 44 ∷ [] → new ≡ fields ++ 10 ∷ []
