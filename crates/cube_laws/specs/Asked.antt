-- The words of the laws on queries (this project's choice).
use Rattle.std.specs.Prelude.{◌≡◌, ℕ, ⊤, true, List, [], ◌∷◌, ◌++◌, map, codes, Option, Some, None}
use Rattle.std.specs.Str.{is_utf8}
use Rattle.cube_core.specs.Query.{Wanted}
use Rattle.cube_core.specs.Text.{line}
use Rattle.cube_core.specs.declared.key.Coord.{Coord}
use Rattle.cube_core.specs.declared.key.Coord.TheVariants as coord
use Rattle.cube_core.specs.declared.key.Key.{Key}

-- the pattern that wants each coordinate of a key
abbrev pub pattern_for : Key → Wanted
pattern_for key = map Some key.coords

-- how a word writes what is wanted in a dimension: `?`, `\A`, `\N`, or `=` and the text
abbrev pub field_for : Option Coord → List ℕ
field_for None = codes "?"
field_for (Some coord.All) = codes "\\A"
field_for (Some coord.Null) = codes "\\N"
field_for (Some (coord.Text text)) = 61 ∷ text

-- a word can write it: a text is UTF-8
abbrev pub CanBeWritten : Option Coord → Type 0
CanBeWritten None = ⊤
CanBeWritten (Some coord.All) = ⊤
CanBeWritten (Some coord.Null) = ⊤
CanBeWritten (Some (coord.Text text)) = is_utf8 text ≡ true

-- a word writes a pattern: it is the line of its fields, without the LF
abbrev pub Writes : List ℕ → Wanted → Type 0
Writes word pattern = line (map field_for pattern) ≡ word ++ 10 ∷ []
