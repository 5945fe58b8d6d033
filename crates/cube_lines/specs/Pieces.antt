-- A text in pieces, and how much of one went out (this project's choice).
use Rattle.std.specs.Prelude.{◌+◌, ◌-◌, ◌≤◌, ℕ, List, length, take, Option}
use Rattle.std.specs.Global.{Vec}
use Rattle.std.specs.Io.KnownBytes.{Appends}
use Rattle.std.specs.List.{flat_map}

-- the text of pieces, one after the other
abbrev pub text_of_pieces : List (Vec ℕ) → List ℕ
text_of_pieces pieces = flat_map (λ piece. piece.items) pieces

-- behind so many bytes that had gone out before, the first bytes of a text were written: so many went out in all
pub record SendsPart (before : ℕ) (text : List ℕ) (sent : ℕ) (old new : Option (List ℕ)) : Type 0 where
  pub from : before ≤ sent
  pub within : sent ≤ before + length text
  pub written : Appends old new (take (sent - before) text)
