-- What a contract sees of a text, wherever its bytes lie (this project's choice).
use Rattle.std.specs.Prelude.{ℕ, List}
use Rattle.std.specs.String.{string_bytes}
use Rattle.cube_core.specs.declared.text.Stored.{Stored}
use Rattle.cube_core.specs.declared.text.Stored.TheVariants.{Short, Long}

-- the bytes of a text that lies in the value or on the heap
abbrev pub stored_bytes : Stored → List ℕ
stored_bytes (Short text) = text.bytes
stored_bytes (Long text) = string_bytes text
