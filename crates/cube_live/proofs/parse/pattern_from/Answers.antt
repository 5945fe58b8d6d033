use Rattle.std.proofs.Common.{◌∙◌, ap}
use Rattle.std.proofs.lemmas.Result.{IfOk-weaker}
use Rattle.csv.specs.Records.{fields_of}
use Rattle.cube_core.specs.Query.{spelled_by}
use Rattle.cube_live.proofs.parse.pattern_from.Goals as goal

pub returns : goal.returns
returns c =
    IfOk-weaker c.unless_memory.result _ _
    (λ said is. is (spelled_by (fields_of c.in_ok-rest.rest)) c.of_record.ensures ∙ ap spelled_by c.in_ok-rest.ensures)
    c.unless_memory.ensures
