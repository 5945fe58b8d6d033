use Rattle.std.proofs.Common.{◌≡◌, ◌∙◌, true, length, List, ap, subst, sym}
use Rattle.std.specs.List.{list_all}
use Rattle.std.proofs.lemmas.Result.{IfOk-weaker}
use Rattle.cube_core.specs.Layout.{Layout, cube_schema, is_aggregate_of}
use Rattle.cube_core.specs.declared.aggregate.Agg.{Agg}
use Rattle.cube_core.proofs.CubeSchemaLaws.{IsSchema-cube_schema, cube_schema-aggregates, cube_schema-text_places}
use Rattle.cube_core.proofs.SufficesLaws.{all_suffice_kept}
use Rattle.cube_cells.specs.Rows.{IsRowOf}
use Rattle.cube_cells.proofs.Cells.SchemaLaws.{IsCubeSchema, aggregates_of_measures}
use Rattle.cube_live.proofs.RowLaws.{rows-one, rows-none}
use Rattle.cube_live.proofs.rows.cell_rows.Goals as goal

pub row_of-requires-clause-measures : goal.row_of-requires-clause-measures
row_of-requires-clause-measures c =
    let s = c.args.schema.now in
    let is : IsCubeSchema (cube_schema s) =
    record { is = IsSchema-cube_schema s c.aggregates.ensures.schema; no_texts = cube_schema-text_places s } in
    let width : length c.in-Some.cell.now.bags ≡ length (cube_schema s).measures =
    c.in-Some.ensures.width ∙ ap (λ (l : Layout). length l.measures) c.requires in
    let suit : list_all (is_aggregate_of (length (cube_schema s).measures)) s.aggregates ≡ true =
    rw (cube_schema-aggregates s) at (aggregates_of_measures is) in
    rw (c.aggregates.ensures.value, width) suit

pub row_of-requires-clause-keeps : goal.row_of-requires-clause-keeps
row_of-requires-clause-keeps c = rw c.aggregates.ensures.value (all_suffice_kept c.args.schema.now)

pub returns : goal.returns
returns c =
    let s = c.args.schema.now in
    let cube = c.args.cube.now in
    let same : s.aggregates ≡ cube.schema.aggregates =
    sym (ap (λ (l : Layout). l.aggregates) c.requires ∙ cube_schema-aggregates s) in
    let is = rw (c.aggregates.ensures.value, same) at c.in_ok-row.ensures in
    IfOk-weaker c.one_row.result _ _ (λ rows one. λ facts of.
    rw one (rows-one cube facts c.args.key c.in-Some.cell.now c.in_ok-row.row of c.in-Some.ensures.cell is))
    c.one_row.ensures

pub returns-in_default : goal.returns-in_default
returns-in_default c = λ facts of. rw c.new.ensures.items
    (rows-none c.args.cube.now facts c.args.key of c.in_default.ensures.cell)
