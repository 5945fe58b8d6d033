-- What stands between the commas of a text, which are the fields of a record that calls for no quotes.
use Rattle.std.specs.Prelude.{◌≡◌, ◌==◌, false, ℕ, List, [], ◌∷◌, if◌then◌else◌}
use Rattle.csv.specs.Writing.{comma}

-- pieces of which the first has one byte more in front
abbrev pub with_byte_first : ℕ → List (List ℕ) → List (List ℕ)
with_byte_first b [] = (b ∷ []) ∷ []
with_byte_first b (piece ∷ pieces) = (b ∷ piece) ∷ pieces

-- what stands between the commas of a text (RFC 4180)
abbrev pub pieces : List ℕ → List (List ℕ)
pieces [] = [] ∷ []
pieces (b ∷ text) = if b == comma then [] ∷ pieces text else with_byte_first b (pieces text)

-- a byte that is no quote and no line end: it stands for itself, or is a comma (RFC 4180)
pub record IsPlainByte (b : ℕ) : Type 0 where
  pub no_quote : (b == 34) ≡ false
  pub no_return : (b == 13) ≡ false
  pub no_feed : (b == 10) ≡ false

-- a byte that a text may begin with for its fields to be its pieces:
-- no comma, so that there is a first field, and none of a byte order mark
pub record MayBegin (b : ℕ) : Type 0 where
  pub no_comma : (b == comma) ≡ false
  pub no_mark : (b == 0xEF) ≡ false
