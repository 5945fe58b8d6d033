-- What is said of codes: the notes of a table, and their text (this project's choice).
use Rattle.std.specs.Prelude.{◌≡◌, ◌≤◌, ℕ, Bool, true, List, [], ◌∷◌, ◌++◌, length, filter, take, codes, Option, Some}
use Rattle.std.specs.Prelude.{None}
use Rattle.std.specs.Io.KnownBytes.{Appends}
use Rattle.std.specs.List.{flat_map}
use Rattle.std.specs.Str.{bytes_eq}
use Rattle.cube_tool.specs.declared.fault.RunFault.TheVariants as run_fault
use Rattle.cube_tool.specs.declared.command.failure.Failure.{Failure}
use Rattle.cube_tool.specs.declared.command.failure.Failure.TheVariants.{UnknownCode, Run}
use Rattle.cube_tool.specs.declared.command.notes.Note.{Note}

-- a line of three parts
abbrev pub line_text : List ℕ → List ℕ → List ℕ → List ℕ
line_text start middle end = start ++ middle ++ end ++ 10 ∷ []

-- the line of an example, where there is one
abbrev pub example_text : List ℕ → List ℕ
example_text [] = []
example_text (b ∷ rest) = line_text (codes "  ") (codes "example: ") (b ∷ rest)

-- a note's text: its code with what it is about, what it means, how to mend it, and an example where there is one
abbrev pub note_text : Note → List ℕ
note_text note =
    line_text note.code.now (codes ": ") note.about.now
    ++ line_text (codes "  ") (codes "means: ") note.means.now
    ++ line_text (codes "  ") (codes "mend: ") note.mend.now
    ++ example_text note.example.now

-- whether a note has the code that is asked for; each has it where none is asked for
abbrev pub has_code : Option (List ℕ) → Note → Bool
has_code None note = true
has_code (Some code) note = bytes_eq note.code.now code

-- what is said of a code, or of all codes where none is asked for
abbrev pub explained : List Note → Option (List ℕ) → List ℕ
explained notes code = flat_map note_text (filter (has_code code) notes)

-- what a failed explanation leaves:
-- nothing was written of a code that isn't there, nor because memory ran out, and else the first bytes
abbrev pub ExplainLeaves : List Note → Option (List ℕ) → Failure → Option (List ℕ) → Option (List ℕ) → Type 0
ExplainLeaves notes code UnknownCode old new = (new ≡ old) × (explained notes code ≡ [])
ExplainLeaves notes code (Run run_fault.Full) old new = new ≡ old
ExplainLeaves notes code (Run (run_fault.Write sent)) old new =
    (sent ≤ length (explained notes code)) × Appends old new (take sent (explained notes code))
ExplainLeaves notes code _ old new = ⊥
