use Rattle.std.proofs.lemmas.Result.{IfOk-weaker}
use Rattle.cube_core.specs.Cube.{AreRows}
use Rattle.cube_ledger.specs.Ledger.{all_facts}
use Rattle.cube_live.proofs.rows.cube_text.Goals as goal

pub ordered_parts-requires : goal.ordered_parts-requires
ordered_parts-requires c = record {
  schema = c.args.parted.now.schema;
  facts = all_facts c.args.parted.now.accounts;
  are = c.in-Some.ensures.parts;
}

pub returns : goal.returns
returns c =
    let s = c.args.parted.now.schema in
    let facts = all_facts c.args.parted.now.accounts in
    IfOk-weaker c.print_cells.result _ _ (λ text is.
    let are : AreRows c.args.schema.now facts is.rows =
    rw c.requires at (c.in_ok-cells.ensures is.rows is.are_rows s facts c.in-Some.ensures.parts) in
    record { rows = is.rows; are_rows = are; text_is = is.text_is })
    c.print_cells.ensures
