use Rattle.std.proofs.Common.{◌≡◌, ◌∙◌, ℕ, length, refl}
use Rattle.std.specs.Global.{Vec}
use Rattle.std.specs.Prelude.{Err, List, None, Ok}
use Rattle.std.proofs.lemmas.Result.{err_from_is_err_and}
use Rattle.cube_core.specs.Query.{AreRowsWhere, drill_fault, drills_down}
use Rattle.cube_core.specs.declared.fact.Fact.{Fact}
use Rattle.cube_core.specs.declared.key.Key.{Key}
use Rattle.cube_core.specs.declared.key.Row.{Row}
use Rattle.cube_cells.specs.BaseCuboid.{cells_of_cuboid}
use Rattle.cube_cells.specs.Cube.{Lattice}
use Rattle.cube_cells.specs.Fill.{IsCubeOfAll}
use Rattle.cube_ledger.specs.Ledger.{all_facts}
use Rattle.cube_live.proofs.RefusalLaws.{refusals_of_accounts}
use Rattle.cube_tool.specs.declared.question.Question.TheVariants.{Drill}
use Rattle.cube_tool.proofs.AnsweringLaws.{Answers-text, AreRowsTested, Writes-rows, Writes-weaker, drill-given}
use Rattle.cube_tool.proofs.AnsweringLaws.{drill-refused, shapes}
use Rattle.cube_tool.proofs.CellFactLaws.{AreRowsWhere-cells, dimensions-cells, sets-cells}
use Rattle.cube_tool.proofs.walked.write_drill.Given.{Over}
use Rattle.cube_tool.proofs.walked.write_drill.Goals.{In_ok-rows}
use Rattle.cube_tool.proofs.walked.write_drill.Goals as goal

-- these are the rows of the cells that drill down, whatever facts they have
abbrev DrillDown : ℕ → Key → Lattice → Vec Row → Type 0
DrillDown dimension key cells rows = (facts : List Fact) → IsCubeOfAll facts cells
    → AreRowsWhere (drills_down dimension key) cells.schema.grouping_sets (length cells.schema.dimensions)
    cells.schema.aggregates facts rows.items

-- the cells have as many dimensions as the question says
pub drill_down-requires-clause-dim : goal.drill_down-requires-clause-dim
drill_down-requires-clause-dim g c =
    rw (dimensions-cells c.args.taken.now.ledger.schema (cells_of_cuboid c.cells-cells.result.now)
    c.cells-cells.ensures.has.schema) c.requires.0

pub drill_down-requires-clause-width : goal.drill_down-requires-clause-width
drill_down-requires-clause-width g c =
    rw (dimensions-cells c.args.taken.now.ledger.schema (cells_of_cuboid c.cells-cells.result.now)
    c.cells-cells.ensures.has.schema) c.requires.1

-- the rows are those that drill down, where there is nothing for which they would be refused
given : (g : Over) (c : In_ok-rows g)
    → (drill_fault c.args.taken.now.ledger.schema.grouping_sets c.args.dimension c.args.key.now ≡ None)
    × AreRowsTested (drills_down c.args.dimension c.args.key.now) c.args.taken.now.ledger.schema
    (all_facts c.args.taken.now.ledger.accounts) c.in_ok-rows.rows.items
given g c =
    let s = c.args.taken.now.ledger.schema in
    let cells = cells_of_cuboid c.cells-cells.result.now in
    let same = c.cells-cells.ensures.has.schema in
    let drilled = drill-given (DrillDown c.args.dimension c.args.key.now cells) c.args.dimension c.args.key.now
    cells.schema.grouping_sets s.grouping_sets c.in_ok-rows.rows (sets-cells s cells same) c.in_ok-rows.ensures in (
      drilled.0,
      AreRowsWhere-cells s (all_facts c.args.taken.now.ledger.accounts) cells same c.cells-cells.ensures.has.has
          (drills_down c.args.dimension c.args.key.now) c.in_ok-rows.rows.items drilled.1,
    )

pub returns-in_err-rows : goal.returns-in_err-rows
returns-in_err-rows g c =
    let p = err_from_is_err_and c.from_residual.result c.from_residual.ensures.1 in
    let s = c.args.taken.now.ledger.schema in
    let cells = cells_of_cuboid c.cells-cells.result.now in
    rw (p.1, p.2) (
      refl,
      drill-refused (DrillDown c.args.dimension c.args.key.now cells) c.args.dimension c.args.key.now
          cells.schema.grouping_sets s.grouping_sets c.in_err-rows.field-0.0
          (sets-cells s cells c.cells-cells.ensures.has.schema) c.in_err-rows.ensures,
    )

pub write_rows-requires : goal.write_rows-requires
write_rows-requires g c =
    let ledger = c.args.taken.now.ledger in
    rw (c.deref.ensures.value, c.schema.ensures.value ∙ c.refused.ensures.schema)
    (shapes (drills_down c.args.dimension c.args.key.now) ledger.schema ledger.schema (all_facts ledger.accounts)
    c.in_ok-rows.rows.items refl c.cells-cells.ensures.has.has.fit
    (given g (goal.at.write_rows-requires g c).In_ok-rows).1)

pub returns-in_err-write_rows : goal.returns-in_err-write_rows
returns-in_err-write_rows g c =
    let p = err_from_is_err_and c.from_residual-in_err-write_rows.result c.from_residual-in_err-write_rows.ensures.1 in
    let ledger = c.args.taken.now.ledger in
    let facts = all_facts ledger.accounts in
    let drilled = given g (goal.at.returns-in_err-write_rows g c).In_ok-rows in
    rw (p.1, p.2)
    (Answers-text (Drill c.args.key.now c.args.dimension) ledger.schema facts (refusals_of_accounts ledger.accounts)
    c.in_err-write_rows.field-0.0 _ _ drilled.0
    (Writes-rows (Err c.in_err-write_rows.field-0.0) _ _ (drills_down c.args.dimension c.args.key.now)
    ledger.schema ledger.schema facts c.in_ok-rows.rows.items refl drilled.1
    (Writes-weaker {T = Unit {0}} (Err c.in_err-write_rows.field-0.0) _ _
    (λ text is. rw (c.deref.ensures.value, c.schema.ensures.value ∙ c.refused.ensures.schema) at is)
    c.in_err-write_rows.ensures)))

pub returns : goal.returns
returns g c =
    let ledger = c.args.taken.now.ledger in
    let drilled = given g (goal.at.returns g c).In_ok-rows in (
      Writes-rows (Ok tt) _ _ (drills_down c.args.dimension c.args.key.now) ledger.schema ledger.schema
          (all_facts ledger.accounts) c.in_ok-rows.rows.items refl drilled.1
          (rw (c.deref.ensures.value, c.schema.ensures.value ∙ c.refused.ensures.schema) at c.in_ok-write_rows.ensures),
      drilled.0,
    )
