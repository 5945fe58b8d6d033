use Rattle.std.proofs.Common.{◌∙◌, ◌≡◌, [], ap}
use Rattle.csv.specs.Writing.{is_blank}
use Rattle.cube_text.proofs.lines.no_lines.Goals as goal

pub returns : goal.returns
unfolding is_blank
returns c =
    let inner : c.from_writer.result.wtr.inner.items ≡ [] =
    ap (λ v. v.items) c.from_writer.ensures.wtr ∙ c.new-2.ensures.items in
    record {
      setup = c.from_writer.ensures.cfg ∙ c.new.ensures;
      bytes = rw (inner, c.from_writer.ensures.empty);
      count = c.from_writer.ensures.fields;
      blank = rw c.from_writer.ensures.wrote;
    }
