-- The first line of a text: it goes on past a line end within quotes (RFC 4180, with line ends of one LF).
use Rattle.std.specs.Prelude.{◌≡◌, ◌==◌, Bool, true, false, not, List, [], ◌∷◌, ◌++◌, ⊤, ℕ, Option, Some, None, IfSome}
use Rattle.std.specs.Prelude.{if◌then◌else◌}

-- whether what follows a byte is within quotes, where the byte is or isn't
abbrev pub is_quoted_behind : Bool → ℕ → Bool
is_quoted_behind true byte = not (byte == 34)
is_quoted_behind false byte = byte == 34

-- whether what follows bytes is within quotes, where they begin within quotes or not
abbrev pub is_quoted_after : Bool → List ℕ → Bool
is_quoted_after quoted [] = quoted
is_quoted_after quoted (byte ∷ bytes) = is_quoted_after (is_quoted_behind quoted byte) bytes

-- the bytes to the first line end outside quotes, and it, or all of them
abbrev pub line_from : Bool → List ℕ → List ℕ
line_from quoted [] = []
line_from true (byte ∷ bytes) = byte ∷ line_from (is_quoted_behind true byte) bytes
line_from false (byte ∷ bytes) = if byte == 10 then byte ∷ [] else byte ∷ line_from (is_quoted_behind false byte) bytes

-- the first line of a text, its end too
abbrev pub next_line : List ℕ → List ℕ
next_line text = line_from false text

-- this is the first line of a text, where that is told
abbrev pub IsNextLine : Option (List ℕ) → List ℕ → Type 0
IsNextLine text line = IfSome text (λ known. line ≡ next_line known)

-- of the first line of a text these bytes were taken, and what is left begins within quotes or not
abbrev pub LineGoesOn : Option (List ℕ) → Option (List ℕ) → List ℕ → Bool → Type 0
LineGoesOn None left line quoted = ⊤
LineGoesOn (Some known) None line quoted = ⊤
LineGoesOn (Some known) (Some left) line quoted = next_line known ≡ line ++ line_from quoted left
