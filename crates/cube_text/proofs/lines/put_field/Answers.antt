use Rattle.cube_text.proofs.LineLaws.{AddsFields-TakesField, OnOk-is_ok}
use Rattle.cube_text.proofs.lines.put_field.Goals as goal

pub returns : goal.returns
returns c = OnOk-is_ok c.write_field.result c.map_err.result c.map_err.ensures.variant (λ v ok.
    AddsFields-TakesField c.args.field.now c.args.lines.now c.write_field.new.self (record {
      text = rw ok at c.write_field.ensures.text;
      same = rw ok at c.write_field.ensures.same;
      count = rw ok at c.write_field.ensures.count;
      wrote = rw ok at c.write_field.ensures.wrote;
      stays = rw ok at c.write_field.ensures.stays;
    }))
