use Rattle.std.proofs.Common.{◌≡◌, drop}
use Rattle.std.specs.List.{list_all}
use Rattle.cube_core.specs.Takes.{is_dimension_value}
use Rattle.cube_core.proofs.schema.are_dimension_values.Given as goal

abbrev pub invariant-loop-place : goal.invariant-loop-place
invariant-loop-place l = list_all is_dimension_value (drop l.place l.values) ≡ list_all is_dimension_value l.values
