use Rattle.std.proofs.Common.{◌≡◌, ◌++◌, [], length}
use Rattle.csv.specs.Records.{fields_of, partial_of}
use Rattle.cube_store_commands.specs.Pieces.{pieces}
use Rattle.cube_store_commands.proofs.plain.read_pieces.Given as goal

abbrev pub invariant-loop-place : goal.invariant-loop-place
invariant-loop-place l = (partial_of l.fields ≡ []) × (fields_of l.fields ++ pieces l.left ≡ pieces l.text)

abbrev pub decreases-loop-place : goal.decreases-loop-place
decreases-loop-place l = length l.left
