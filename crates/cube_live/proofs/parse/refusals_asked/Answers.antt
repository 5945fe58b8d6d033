use Rattle.std.proofs.Common.{◌≡◌, ◌==◌, ◌∙◌, ap, false, length}
use Rattle.std.proofs.lemmas.Bool.{ne_eqb}
use Rattle.csv.specs.Records.{fields_of}
use Rattle.cube_core.specs.Items.{field_at}
use Rattle.cube_live.specs.Request.{count_of, of_width, refusals_by, source_of}
use Rattle.cube_live.proofs.parse.refusals_asked.Goals as goal

pub returns : goal.returns
returns c =
    let fields = fields_of c.args.fields.now in
    let many : (length fields == 1) ≡ false = ne_eqb _ _ (rw c.len.ensures at c.if-len-eq1.false) in
    let asked : c.refusals_by.result ≡ refusals_by (source_of (field_at fields 1))
    (count_of (field_at fields 2)) = cc in
    rw many (c.of_width.ensures ∙ ap (of_width 3 fields) asked)
