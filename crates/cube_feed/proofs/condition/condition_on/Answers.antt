use Rattle.csv.specs.Records.{fields_of}
use Rattle.cube_feed.proofs.ConditionLaws.{condition_on-dimension, condition_on-measure}
use Rattle.cube_feed.proofs.condition.condition_on.Goals as goal

pub returns-in-Some : goal.returns-in-Some
returns-in-Some c =
    rw (condition_on-dimension c.args.schema.now c.args.name.now c.args.operator (fields_of c.args.value.now)
    c.dimensions.result.now c.position_of.result c.in-Some.place c.dimensions.ensures.value c.position_of.ensures
    c.in-Some.is) c.condition_on_dimension.ensures

pub returns-in-Some-position_of : goal.returns-in-Some-position_of
returns-in-Some-position_of c =
    rw (condition_on-measure c.args.schema.now c.args.name.now c.args.operator (fields_of c.args.value.now)
    c.dimensions.result.now c.measures.result.now c.position_of.result c.position_of-2.result c.in-Some-position_of.place
    c.dimensions.ensures.value c.position_of.ensures c.in_default.is c.measures.ensures.value
    c.position_of-2.ensures c.in-Some-position_of.is) c.condition_on_measure.ensures
