use Rattle.cube_text.proofs.LineLaws.{EndsLine-IsEnded, OnOk-is_ok}
use Rattle.cube_text.proofs.lines.end_line.Goals as goal

pub returns : goal.returns
returns c = OnOk-is_ok c.end_record.result c.map_err.result c.map_err.ensures.variant (λ v ok.
    EndsLine-IsEnded c.args.lines.now c.end_record.new.self (record {
      text = rw ok at c.end_record.ensures.bytes;
      same = rw ok at c.end_record.ensures.same;
      fields = rw ok at c.end_record.ensures.fields;
      wrote = rw ok at c.end_record.ensures.wrote;
    }))
