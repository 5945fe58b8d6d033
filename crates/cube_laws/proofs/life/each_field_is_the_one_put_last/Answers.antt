use Rattle.std.proofs.Common.{length}
use Rattle.cube_laws.proofs.FieldLaws.{life_of-last, dims-IsPart, measures-IsPart}
use Rattle.cube_laws.proofs.life.each_field_is_the_one_put_last.Goals as goal

pub returns-clause-dimensions : goal.returns-clause-dimensions
returns-clause-dimensions c s id changes fact place taken present below =
    life_of-last s (λ f. f.dims) (λ p. p.dims) (length s.dimensions) place
    (dims-IsPart s) below id changes fact taken present

pub returns-clause-measures : goal.returns-clause-measures
returns-clause-measures c s id changes fact place taken present below =
    life_of-last s (λ f. f.measures) (λ p. p.measures) (length s.measures) place
    (measures-IsPart s) below id changes fact taken present
