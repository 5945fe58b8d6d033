use Rattle.std.proofs.Common.{◌≡◌, ap, refl}
use Rattle.std.specs.Global.{Vec}
use Rattle.std.specs.Prelude.{Err, None, Ok}
use Rattle.std.proofs.lemmas.Result.{err_from_is_err_and}
use Rattle.cube_core.specs.Layout.{Layout}
use Rattle.cube_core.specs.Query.{drill_fault, drills_down}
use Rattle.cube_core.specs.declared.key.Row.{Row}
use Rattle.cube_build.specs.Parts.{AreRowsOfRun, facts_of_run, schema_of_run}
use Rattle.cube_tool.specs.Answering.{refusals_of_run}
use Rattle.cube_tool.specs.declared.question.Question.TheVariants.{Drill}
use Rattle.cube_tool.proofs.AnsweringLaws.{Answers-text, Writes-rows, Writes-weaker, drill-given, drill-refused, shapes}
use Rattle.cube_tool.proofs.answers.write_drill.Given.{Over}
use Rattle.cube_tool.proofs.answers.write_drill.Goals.{In_ok-rows}
use Rattle.cube_tool.proofs.answers.write_drill.Goals as goal

-- the rows drill down, where there is nothing for which they would be refused
given : (g : Over) (c : In_ok-rows g)
    → (drill_fault c.args.schema.now.grouping_sets c.args.dimension c.args.key.now ≡ None)
    × AreRowsOfRun (drills_down c.args.dimension c.args.key.now) c.args.built.now c.in_ok-rows.rows.items
given g c =
    drill-given
    (λ (rows : Vec Row). AreRowsOfRun (drills_down c.args.dimension c.args.key.now) c.args.built.now rows.items)
    c.args.dimension c.args.key.now (schema_of_run c.args.built.now).grouping_sets c.args.schema.now.grouping_sets
    c.in_ok-rows.rows (ap (λ (l : Layout). l.grouping_sets) c.requires.schema) c.in_ok-rows.ensures

pub returns-in_err-rows : goal.returns-in_err-rows
returns-in_err-rows g c =
    let p = err_from_is_err_and c.from_residual.result c.from_residual.ensures.1 in
    rw (p.1, p.2) (
      refl,
      drill-refused
          (λ (rows : Vec Row). AreRowsOfRun (drills_down c.args.dimension c.args.key.now) c.args.built.now rows.items)
          c.args.dimension c.args.key.now (schema_of_run c.args.built.now).grouping_sets
          c.args.schema.now.grouping_sets c.in_err-rows.field-0.0
          (ap (λ (l : Layout). l.grouping_sets) c.requires.schema) c.in_err-rows.ensures,
    )

pub write_rows-requires : goal.write_rows-requires
write_rows-requires g c =
    rw c.deref.ensures.value (shapes (drills_down c.args.dimension c.args.key.now) (schema_of_run c.args.built.now)
    c.args.schema.now (facts_of_run c.args.built.now) c.in_ok-rows.rows.items c.requires.schema c.facts_fit.ensures
    (given g (goal.at.write_rows-requires g c).In_ok-rows).1)

pub returns-in_err-write_rows : goal.returns-in_err-write_rows
returns-in_err-write_rows g c =
    let p = err_from_is_err_and c.from_residual-in_err-write_rows.result c.from_residual-in_err-write_rows.ensures.1 in
    let drilled = given g (goal.at.returns-in_err-write_rows g c).In_ok-rows in
    rw (p.1, p.2)
    (Answers-text (Drill c.args.key.now c.args.dimension) c.args.schema.now (facts_of_run c.args.built.now)
    (refusals_of_run c.args.built.now) c.in_err-write_rows.field-0.0 _ _ drilled.0
    (Writes-rows (Err c.in_err-write_rows.field-0.0) _ _ (drills_down c.args.dimension c.args.key.now)
    (schema_of_run c.args.built.now) c.args.schema.now (facts_of_run c.args.built.now) c.in_ok-rows.rows.items
    c.requires.schema drilled.1
    (Writes-weaker {T = Unit {0}} (Err c.in_err-write_rows.field-0.0) _ _ (λ text is. rw c.deref.ensures.value at is)
    c.in_err-write_rows.ensures)))

pub returns : goal.returns
returns g c =
    let drilled = given g (goal.at.returns g c).In_ok-rows in (
      Writes-rows (Ok tt) _ _ (drills_down c.args.dimension c.args.key.now) (schema_of_run c.args.built.now)
          c.args.schema.now (facts_of_run c.args.built.now) c.in_ok-rows.rows.items c.requires.schema drilled.1
          (rw c.deref.ensures.value at c.in_ok-write_rows.ensures),
      drilled.0,
    )
