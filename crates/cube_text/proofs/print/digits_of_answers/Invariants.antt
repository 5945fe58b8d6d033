use Rattle.std.proofs.Common.{◌≡◌, ◌≤◌, map, take}
use Rattle.std.specs.Prelude.{All}
use Rattle.cube_core.specs.Text.{digits_of}
use Rattle.cube_text.proofs.print.digits_of_answers.Given as goal

abbrev pub invariant-loop-aggregate : goal.invariant-loop-aggregate
invariant-loop-aggregate l = record {
  value : l.digits.items ≡ map (digits_of l.schema) (take l.aggregate-index l.aggregates);
  few : All (λ k. k ≤ 18) l.digits.items;
}
