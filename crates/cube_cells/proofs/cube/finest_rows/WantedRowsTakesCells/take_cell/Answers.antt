use Rattle.std.proofs.Common.{◌∙◌, ◌<◌, [], List, ap, refl, sym, arith, length, get_or}
use Rattle.std.proofs.lemmas.List.{get_or_default}
use Rattle.cube_core.specs.Layout.{Layout}
use Rattle.cube_core.specs.declared.text.Text.{Text}
use Rattle.cube_cells.specs.FinestRows.{TakesWanted}
use Rattle.cube_cells.specs.declared.cube.codes.Codes.{Codes}
use Rattle.cube_cells.proofs.Cells.TakenLaws.{TakesAll-key, TakesAll-same}
use Rattle.cube_cells.proofs.cube.finest_rows.WantedRowsTakesCells.take_cell.Goals as goal

pub returns-then-measures : goal.returns-then-measures
returns-then-measures g c = TakesAll-same TakesWanted c.args.cell.now c.args.keys.now c.args.self.now (λ codes. record {
  same = refl;
  same_wants = refl;
  more = λ width. absurd (c.if-measures.true (c.measures.ensures ∙ width
      ∙ sym (ap (λ (names : List Text). length names) (c.measures-2.ensures.value
      ∙ ap (λ (l : Layout). l.measures) c.schema.ensures.schema))));
})

pub loop-codes-preserved : goal.loop-codes-preserved
loop-codes-preserved g c =
    let keys = c.args.keys.now in
    let i = c.loop-codes.codes-index in
    let inside : i < length keys = omega (arith, c.loop-codes-test.true) in
    let codes : Codes = get_or keys i (record { codes = [] }) in
    record {
      same = c.loop-codes.invariant.same;
      taken = TakesAll-key TakesWanted c.args.cell.now keys i codes c.args.self.now c.loop-codes.self _
          (get_or_default keys i (record { codes = [] }) codes inside) inside c.loop-codes.invariant.taken
          (record { same = refl; same_wants = refl; more = λ width. c.in_ok-put_if_wanted.ensures });
    }
