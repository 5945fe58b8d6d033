use Rattle.std.proofs.Common.{◌≡◌, ◌<◌, length, arith, sym, ap, ◌∙◌}
use Rattle.std.proofs.lemmas.Result.{IfOk-weaker}
use Rattle.cube_core.specs.Query.{drills_down}
use Rattle.cube_cells.specs.Cube.{Lattice}
use Rattle.cube_cells.specs.Rows.{AreWantsOf, AreWantsBelow}
use Rattle.cube_cells.proofs.Rows.DrillLaws.{AreWantsOf-drills_down}
use Rattle.cube_cells.proofs.cube.queries.Cube.rows_below.Goals as goal

pub wants_below-requires : goal.wants_below-requires
wants_below-requires c =
    let wide : length c.args.key.now.coords ≡ length c.self.inside.schema.dimensions =
    c.requires.width ∙ sym (ap (λ (l : Lattice). length l.schema.dimensions) c.self.view_is) in
    rw (← c.self.view_is, c.as_slice.ensures) (wide ∙ sym c.self.invariant.coded.lattice.dictionaries)

pub returns : goal.returns
returns c =
    let dictionaries = c.self.inside.dictionaries.items in
    let key = c.args.key.now in
    let dim = c.args.dim in
    let wide : length key.coords ≡ length c.self.inside.schema.dimensions =
    c.requires.width ∙ sym (ap (λ (l : Lattice). length l.schema.dimensions) c.self.view_is) in
    let below : dim < length c.self.inside.schema.dimensions =
    omega (arith, c.requires.dim, ap (λ (l : Lattice). length l.schema.dimensions) c.self.view_is) in
    let long : length c.in_ok-wants.wants.items ≡ length dictionaries =
    rw (← c.self.view_is) at c.in_ok-wants.ensures.long in
    let wants : AreWantsBelow dictionaries dim key.coords c.in_ok-wants.wants.items =
    rw (← c.self.view_is, c.as_slice.ensures) at c.in_ok-wants.ensures.wants in
    let are : AreWantsOf c.args.self.now.dictionaries (drills_down dim key) c.in_ok-wants.wants.items =
    rw (← c.self.view_is)
    (AreWantsOf-drills_down dictionaries key c.in_ok-wants.wants.items dim c.self.invariant.coded.texts
    (wide ∙ sym c.self.invariant.coded.lattice.dictionaries) long
    (omega (arith, below, c.self.invariant.coded.lattice.dictionaries)) c.requires.rolled wants) in
    IfOk-weaker c.few_rows_where.result _ _
    (λ rows given. given (drills_down dim key) (rw c.deref.ensures.value are)) c.few_rows_where.ensures
