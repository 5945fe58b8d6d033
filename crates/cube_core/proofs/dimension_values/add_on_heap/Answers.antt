use Rattle.std.proofs.Common.{arith}
use Rattle.std.proofs.lemmas.Grind.{common_steps}
use Rattle.cube_core.proofs.ValueLaws.{Adds-text}
use Rattle.cube_core.proofs.dimension_values.add_on_heap.Goals as goal

pub returns-clause-added : goal.returns-clause-added
returns-clause-added c =
    let places = c.in-Some-places_after.ensures in
    rw (
      c.in_ok-push-2.ensures.items,
      c.in_ok-extend_from_slice.ensures.items,
      c.in-Ok-Ok.ensures.1,
      c.in-Ok-Ok.ensures'.1,
      places.0,
      places.1,
      c.as_slice.ensures.value,
      c.in-Some.is,
      ← c.as_bytes.ensures.value,
    )
    (Adds-text c.args.block.now.items c.as_bytes.result.now c.args.spans.now.items c.as_bytes.ensures.utf8)

pub returns-in_default-clause-added : goal.returns-in_default-clause-added
returns-in_default-clause-added c = grind (arith, common_steps)

pub returns-in_err-push-clause-kept : goal.returns-in_err-push-clause-kept
returns-in_err-push-clause-kept c = grind (arith, common_steps)

pub returns-in_err-extend_from_slice-clause-kept : goal.returns-in_err-extend_from_slice-clause-kept
returns-in_err-extend_from_slice-clause-kept c = grind (arith, common_steps)

pub returns-in_err-push-2-clause-kept : goal.returns-in_err-push-2-clause-kept
returns-in_err-push-2-clause-kept c = grind (arith, common_steps)
