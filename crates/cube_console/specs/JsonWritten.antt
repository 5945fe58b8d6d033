-- What a writer of lines of JSON has written of a printed cube.
use Rattle.std.specs.Prelude.{◌≡◌, ◌++◌, ℕ, List, Option, Some}
use Rattle.cube_console.specs.JsonLines.{begun, made_text, make_bytes}
use Rattle.cube_console.specs.JsonLinesMade.{making_of}
use Rattle.cube_console.specs.RecordsRead.{IsWhole}
use Rattle.cube_console.specs.declared.views.json_writer.JsonWriter.{JsonWriter}

-- this text of a cube with d dimensions came to a writer above one that held `start` before:
-- what that holds now, and the lines that are ready, are `start` and the lines that the text makes
pub record Wrote {O : Type 0} (contents : O → Option (List ℕ)) (d : ℕ) (start text : List ℕ)
    (w : JsonWriter O) : Type 0 where
  pub dimensions : w.lines.dimensions ≡ d
  pub whole : IsWhole w.lines.records
  pub making : making_of w.lines ≡ make_bytes d begun text
  pub sent : List ℕ
  pub holds : contents w.outlet.inner ≡ Some sent
  pub written : sent ++ w.lines.ready.items ≡ start ++ made_text d begun text
