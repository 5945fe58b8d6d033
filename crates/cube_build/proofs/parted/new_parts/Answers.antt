use Rattle.std.proofs.Common.{length, ap, ◌∙◌, false, rules}
use Rattle.cube_core.specs.GroupingSet.{sets_of_part}
use Rattle.cube_core.specs.Layout.{Layout}
use Rattle.cube_cells.specs.Cube.{Lattice}
use Rattle.cube_build.specs.Parted.{IsPartFor}
use Rattle.cube_build.specs.declared.parted.Part.{Part}
use Rattle.cube_build.proofs.PartedLaws.{ArePartsFor-more}
use Rattle.cube_build.proofs.parted.new_parts.Goals as goal

pub loop-part-preserved : goal.loop-part-preserved
loop-part-preserved c =
    let s = c.args.ledger.now.schema in
    let made = c.in_ok-cube.ensures.new in
    let next : Part = record { cube = c.counted_for-cube.result; is_spent = false } in
    let is : IsPartFor s c.args.parts (length c.loop-part.new.items) next.cube =
    rw (c.loop-part.invariant.long) (record {
      is = rw c.schema-schema.ensures.value at c.counted_for-cube.ensures.is;
      sets =
          ap (λ (l : Lattice). l.sets) c.counted_for-cube.ensures.cube ∙ made.sets_are
          ∙ ap (λ (l : Layout). sets_of_part c.loop-part.part c.args.parts l.grouping_sets) c.schema-schema.ensures.value;
    }) in
    record {
      long = search rules;
      over = rw (c.in_ok-push.ensures.items)
          (ArePartsFor-more s c.args.parts c.loop-part.new.items next is c.loop-part.invariant.over);
    }
