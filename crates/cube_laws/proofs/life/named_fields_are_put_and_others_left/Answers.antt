use Rattle.cube_laws.proofs.LifeLaws.{fields_over-put, fields_over-kept}
use Rattle.cube_laws.proofs.life.named_fields_are_put_and_others_left.Goals as goal

pub returns-clause-dimension_put : goal.returns-clause-dimension_put
returns-clause-dimension_put c part old place value same there =
    fields_over-put part.dims old.dims place value same there

pub returns-clause-dimension_left : goal.returns-clause-dimension_left
returns-clause-dimension_left c part old place same there = fields_over-kept part.dims old.dims place same there

pub returns-clause-measure_put : goal.returns-clause-measure_put
returns-clause-measure_put c part old place value same there =
    fields_over-put part.measures old.measures place value same there

pub returns-clause-measure_left : goal.returns-clause-measure_left
returns-clause-measure_left c part old place same there = fields_over-kept part.measures old.measures place same there
