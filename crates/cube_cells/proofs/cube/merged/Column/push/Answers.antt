use Rattle.cube_cells.proofs.cube.merged.Column.push.Goals as goal

pub returns : goal.returns
returns c = record {
  code = c.in_ok-code.code;
  codes_are = c.in_ok-push.ensures.items;
  texts = c.in_ok-code.ensures.texts;
  dictionary = c.in_ok-code.ensures.dictionary;
  valid = c.in_ok-code.ensures.valid;
  alone = c.in_ok-code.ensures.code;
}
