-- What a web page is handed: the cube of feeds that it holds, the schema of a file, and what a code means (this project's
-- choice).
use Rattle.std.specs.Prelude.{◌≡◌, ◌≢◌, ℕ, List, [], ◌∷◌, length, map, take, drop, min, Option, None, Some, Ok, IsUtf8}
use Rattle.cube_core.specs.Layout.{Layout}
use Rattle.cube_files.specs.SchemaGuess.{IsSchemaText}
use Rattle.cube_tool.specs.Command.{AnswersFile}
use Rattle.cube_tool.specs.Explain.{explained}
use Rattle.cube_tool.specs.Run.{IsTextOf, OfFeeds}
use Rattle.cube_tool.specs.declared.command.notes.Note.{Note}
use Rattle.cube_tool.specs.declared.question.Question.TheVariants.{Cube, Refusals}

-- a text was handed over in a room: its size was told, and as much of it as fits stands at the room's start
pub record IsHanded (text room : List ℕ) (size : ℕ) : Type 0 where
  pub told : size ≡ length text
  pub stands : take (min (length text) (length room)) room ≡ take (min (length text) (length room)) text

-- why there is no answer was handed over, as UTF-8
pub record HandsReason (room : List ℕ) (size : ℕ) : Type 0 where
  pub reason : List ℕ
  pub is_text : IsUtf8 reason
  pub handed : IsHanded reason room size

-- the feeds that stand one behind another in some bytes, by their lengths; where there are too few bytes, the last feeds
-- have fewer
abbrev pub feeds_in : List ℕ → List ℕ → List (List ℕ)
feeds_in [] bytes = []
feeds_in (n ∷ lengths) bytes = take n bytes ∷ feeds_in lengths (drop n bytes)

-- what is shown of feeds under a schema: their printed cube, and their refusals
abbrev pub Shows : Layout → List (List ℕ) → List ℕ → List ℕ → Type 0
Shows s feeds cube refusals = OfFeeds s (map Some feeds)
    (λ items. IsTextOf Cube s items cube × IsTextOf Refusals s items refusals)

-- the same under the schema that a text is
pub record IsShown (schema : List ℕ) (feeds : List (List ℕ)) (cube refusals : List ℕ) : Type 0 where
  pub layout : Layout
  pub says : AnswersFile schema (Ok layout)
  pub shows : Shows layout feeds cube refusals

-- the text of a schema was handed over
pub record HandsSchema (room : List ℕ) (size : ℕ) : Type 0 where
  pub text : List ℕ
  pub is_schema : IsSchemaText text
  pub handed : IsHanded text room size

-- both texts that are shown of feeds were handed over
pub record HandsShown (schema : List ℕ) (feeds : List (List ℕ)) (cube_room : List ℕ) (cube_size : ℕ)
    (refusals_room : List ℕ) (refusals_size : ℕ) : Type 0 where
  pub cube : List ℕ
  pub refusals : List ℕ
  pub shown : IsShown schema feeds cube refusals
  pub cube_handed : IsHanded cube cube_room cube_size
  pub refusals_handed : IsHanded refusals refusals_room refusals_size

-- the code that some bytes ask for; where there is no byte, all codes are asked for
abbrev pub code_in : List ℕ → Option (List ℕ)
code_in [] = None
code_in (b ∷ rest) = Some (b ∷ rest)

-- a text is what some notes say of a code, or of all codes where none is asked for
pub record IsSaid (code : Option (List ℕ)) (text : List ℕ) : Type 0 where
  pub notes : List Note
  pub says : text ≡ explained notes code

-- what notes say of the code that some bytes ask for was handed over, and one of them has it
pub record HandsExplained (code room : List ℕ) (size : ℕ) : Type 0 where
  pub text : List ℕ
  pub is_said : IsSaid (code_in code) text
  pub is_known : text ≢ []
  pub handed : IsHanded text room size
