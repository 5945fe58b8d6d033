use Rattle.std.proofs.Common.{◌<◌, ◌^◌, length, refl}
use Rattle.std.proofs.lemmas.List.Elements.{All-filter}
use Rattle.cube_cells.specs.BottomUp.{cells_of_items}
use Rattle.cube_cells.specs.FinestRows.{can_be_of}
use Rattle.cube_cells.proofs.Cells.SchemaLaws.{its_schema, sets_below}
use Rattle.cube_cells.proofs.Rows.FinestRowLaws.{AreRowsWhere-TakesSets}
use Rattle.cube_cells.proofs.cube.finest_cells.FinestCells.rows_where.Goals as goal

pub walk_sets-requires : goal.walk_sets-requires
walk_sets-requires g c = rw (← c.self.view_is, c.deref.ensures.value, c.in_ok-sets.ensures, c.grouping_sets.ensures.value)
    (All-filter (can_be_of c.args.wants.now) (λ set. set < 2 ^ length c.self.inside.schema.dimensions)
    c.self.inside.schema.grouping_sets (sets_below (its_schema c.self.invariant.0.coded.lattice)))

pub returns : goal.returns
returns g c = λ test tests facts of. rw (← c.self.view_is)
    (AreRowsWhere-TakesSets c.self.inside.schema c.self.inside.facts c.self.inside.texts.items
    (cells_of_items c.self.inside.items.items) c.args.wants.now test facts _ c.walk_sets.new.sink c.self.invariant.0
    c.requires (rw (← c.self.view_is, c.deref.ensures.value, c.in_ok-sets.ensures, c.grouping_sets.ensures.value) at
    c.in_ok-walk_sets.ensures) refl refl c.new-rows.ensures.items
    (rw (← c.self.view_is) at tests) (rw (← c.self.view_is) at of))
