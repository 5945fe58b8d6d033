-- The words of the laws on lines of fields and the records that they read as (RFC 4180).
use Rattle.std.specs.Prelude.{◌≡◌, ◌≢◌, ◌⊎◌, ◌≤◌, ℕ, List, [], ◌∷◌, ◌++◌, codes, length, negsuc}
use Rattle.std.specs.List.{AllByRecursion}
use Rattle.cube_core.specs.Text.{line}
use Rattle.cube_core.specs.declared.aggregate.Answer.TheVariants as answer
use Rattle.cube_core.specs.declared.key.Coord.TheVariants as coord
use Rattle.cube_core.specs.declared.key.Row.{Row}

-- a byte is none of those that CSV sets apart: a comma, a quote, CR and LF
abbrev pub IsPlainByte : ℕ → Type 0
IsPlainByte byte = (byte ≢ 44) × (byte ≢ 34) × (byte ≢ 13) × (byte ≢ 10)

-- a field has no other bytes
abbrev pub IsPlain : List ℕ → Type 0
IsPlain field = AllByRecursion IsPlainByte field

-- a byte ends a line: CR or LF
abbrev pub EndsLine : ℕ → Type 0
EndsLine byte = (byte ≡ 13) ⊎ (byte ≡ 10)

-- a text is the line of some field or fields, without what ends it
pub record IsUnended (fields : List (List ℕ)) (text : List ℕ) : Type 0 where
  pub some_field : 1 ≤ length fields
  pub written : line fields ≡ text ++ 10 ∷ []

-- a text is such a line with one CR or LF or more after it, as CRLF, LF, or either with blank lines behind
pub record IsEnded (fields : List (List ℕ)) (text : List ℕ) : Type 0 where
  pub body : List ℕ
  pub first : ℕ
  pub more : List ℕ
  pub unended : IsUnended fields body
  pub ends : EndsLine first
  pub more_end : AllByRecursion EndsLine more
  pub text_is : text ≡ body ++ first ∷ more

-- a row with a text, null and ALL, a count, a number, null and a fraction
abbrev pub sample_row : Row
sample_row = record {
  key = record { coords = coord.Text (codes "north") ∷ coord.Null ∷ coord.All ∷ [] };
  answers = answer.Count 12 ∷ answer.Whole (negsuc 304) ∷ answer.Null ∷ answer.Ratio (negsuc 60) 4 ∷ [];
}
