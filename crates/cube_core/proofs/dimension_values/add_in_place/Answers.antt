use Rattle.std.proofs.lemmas.List.{length-append}
use Rattle.cube_core.proofs.ValueLaws.{Adds-text}
use Rattle.cube_core.proofs.dimension_values.add_in_place.Goals as goal

pub returns-clause-added : goal.returns-clause-added
returns-clause-added c = λ _.
    rw (
      c.push-2.ensures.items,
      c.len.ensures.value,
      c.in-Ok.ensures.ok,
      c.len-start.ensures.value,
      c.in-Some.is,
      ← c.as_bytes.ensures.value,
      length-append c.args.block.now.items c.as_bytes.result.now,
    )
    (Adds-text c.args.block.now.items c.as_bytes.result.now c.args.spans.now.items c.as_bytes.ensures.utf8)
