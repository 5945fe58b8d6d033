use Rattle.std.proofs.Common.{◌∙◌, sym}
use Rattle.cube_core.proofs.SchemaSpellingLaws.{position-between, position-between_none}
use Rattle.cube_core.proofs.schema_toml.measure_spelled.Goals as goal

pub returns-in_err-argument_of : goal.returns-in_err-argument_of
returns-in_err-argument_of c =
    c.from_residual.ensures ∙ sym (position-between_none _ _ _ _ (c.in_err-argument_of.ensures {u = tt}))

pub returns : goal.returns
returns c = c.position_of.ensures ∙ position-between _ _ _ _ _ c.in_ok-argument_of.ensures
