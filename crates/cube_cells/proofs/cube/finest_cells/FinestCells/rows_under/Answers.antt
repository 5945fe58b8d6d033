use Rattle.std.proofs.Common.{◌≡◌, ◌<◌, ◌∙◌, ap, arith, length, sym}
use Rattle.std.proofs.lemmas.Result.{IfOk-weaker}
use Rattle.cube_core.specs.Query.{drills_down}
use Rattle.cube_cells.specs.Cube.{Lattice}
use Rattle.cube_cells.specs.Rows.{AreWantsBelow, AreWantsOf}
use Rattle.cube_cells.proofs.Cells.SchemaLaws.{few_dimensions, its_schema}
use Rattle.cube_cells.proofs.Rows.DrillLaws.{AreWantsOf-drills_down}
use Rattle.cube_cells.proofs.cube.finest_cells.FinestCells.rows_under.Goals as goal

pub wants_below-requires : goal.wants_below-requires
wants_below-requires g c =
    let wide : length c.args.key.now.coords ≡ length c.self.inside.schema.dimensions =
    c.requires.width ∙ sym (ap (λ (l : Lattice). length l.schema.dimensions) c.self.view_is) in
    rw (← c.self.view_is, c.as_slice.ensures) (wide ∙ sym c.self.invariant.0.coded.lattice.dictionaries)

pub rows_where-requires : goal.rows_where-requires
rows_where-requires g c = rw c.deref.ensures.value (omega (
  arith,
  c.in_ok-wants.ensures.long,
  ap (λ (l : Lattice). length l.dictionaries) c.self.view_is,
  c.self.invariant.0.coded.lattice.dictionaries,
  few_dimensions (its_schema c.self.invariant.0.coded.lattice),
))

pub returns : goal.returns
returns g c =
    let dictionaries = c.self.inside.texts.items in
    let key = c.args.key.now in
    let dim = c.args.dim in
    let wide : length key.coords ≡ length c.self.inside.schema.dimensions =
    c.requires.width ∙ sym (ap (λ (l : Lattice). length l.schema.dimensions) c.self.view_is) in
    let below : dim < length c.self.inside.schema.dimensions =
    omega (arith, c.requires.dim, ap (λ (l : Lattice). length l.schema.dimensions) c.self.view_is) in
    let long : length c.in_ok-wants.wants.items ≡ length dictionaries =
    rw (← c.self.view_is) at c.in_ok-wants.ensures.long in
    let wants : AreWantsBelow dictionaries dim key.coords c.in_ok-wants.wants.items =
    rw (← c.self.view_is, c.as_slice.ensures) at c.in_ok-wants.ensures.wants in
    let are : AreWantsOf c.args.self.now.dictionaries (drills_down dim key) c.in_ok-wants.wants.items =
    rw (← c.self.view_is)
    (AreWantsOf-drills_down dictionaries key c.in_ok-wants.wants.items dim c.self.invariant.0.coded.texts
    (wide ∙ sym c.self.invariant.0.coded.lattice.dictionaries) long
    (omega (arith, below, c.self.invariant.0.coded.lattice.dictionaries)) c.requires.rolled wants) in
    IfOk-weaker c.rows_where.result _ _
    (λ rows given. given (drills_down dim key) (rw c.deref.ensures.value are)) c.rows_where.ensures
