use Rattle.std.proofs.Common.{◌≡◌, ◌∙◌, ap, arith, length, sym}
use Rattle.std.proofs.lemmas.List.{length-set}
use Rattle.cube_core.specs.declared.key.Coord.TheVariants as coord
use Rattle.cube_core.specs.declared.key.Key.{Key}
use Rattle.cube_cells.specs.Cube.{Lattice}
use Rattle.cube_cells.specs.Rows.{AreWantsBelow}
use Rattle.cube_cells.proofs.Cells.SchemaLaws.{few_dimensions, its_schema}
use Rattle.cube_cells.proofs.Rows.DrillLaws.{AreWantsOf-itself}
use Rattle.cube_cells.proofs.Rows.FinestRowLaws.{IsRowOver-last}
use Rattle.cube_cells.proofs.cube.finest_cells.FinestCells.roll_up.Goals as goal

pub wants_below-requires : goal.wants_below-requires
wants_below-requires g c =
    let long : length c.in_ok-above.above.coords ≡ length c.args.key.now.coords =
    ap (λ (k : Key). length k.coords) c.in_ok-above.ensures ∙ length-set c.args.key.now.coords c.args.dim coord.All in
    let width : length c.args.key.now.coords ≡ length c.self.inside.schema.dimensions =
    c.requires.width ∙ sym (ap (λ (l : Lattice). length l.schema.dimensions) c.self.view_is) in
    rw (← c.self.view_is, c.as_slice-coords.ensures) (long ∙ width ∙ sym c.self.invariant.0.coded.lattice.dictionaries)

pub rows_where-requires : goal.rows_where-requires
rows_where-requires g c = rw c.deref.ensures.value (omega (
  arith,
  c.in_ok-wants.ensures.long,
  ap (λ (l : Lattice). length l.dictionaries) c.self.view_is,
  c.self.invariant.0.coded.lattice.dictionaries,
  few_dimensions (its_schema c.self.invariant.0.coded.lattice),
))

pub returns : goal.returns
returns g c = λ facts of.
    let dictionaries = c.args.self.now.dictionaries in
    let above : Key = c.in_ok-above.above in
    let wants = c.in_ok-wants.wants.items in
    let long : length above.coords ≡ length c.args.key.now.coords =
    ap (λ (k : Key). length k.coords) c.in_ok-above.ensures ∙ length-set c.args.key.now.coords c.args.dim coord.All in
    let width : length c.args.key.now.coords ≡ length c.self.inside.schema.dimensions =
    c.requires.width ∙ sym (ap (λ (l : Lattice). length l.schema.dimensions) c.self.view_is) in
    let wide : length above.coords ≡ length dictionaries =
    rw (← c.self.view_is) (long ∙ width ∙ sym c.self.invariant.0.coded.lattice.dictionaries) in
    let below : AreWantsBelow dictionaries (length above.coords) above.coords wants =
    rw c.as_slice-coords.ensures at c.in_ok-wants.ensures.wants in
    rw (← c.in_ok-above.ensures) (IsRowOver-last c.args.self.now.schema.grouping_sets
    (length c.args.self.now.schema.dimensions) c.args.self.now.schema.aggregates facts above c.in_ok-rows.rows.items
    c.pop.new.self.items c.pop.result c.in_ok-rows.rows.len c.pop.new.self.len
    (c.in_ok-rows.ensures _ (rw c.deref.ensures.value
    (AreWantsOf-itself dictionaries above wants wide c.in_ok-wants.ensures.long below)) facts of)
    c.pop.ensures.items (omega arith) c.pop.ensures.cases)
