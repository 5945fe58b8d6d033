use Rattle.std.proofs.Common.{◌∙◌}
use Rattle.std.specs.Str.{bytes_eq}
use Rattle.std.specs.String.{string_bytes}
use Rattle.cube_cells.proofs.Codes.DictionaryLaws.{position-map}
use Rattle.cube_cells.proofs.cube.dictionary.Dictionary.code_of.Goals as goal

pub returns : goal.returns
returns c = rw (← c.self.view_is)
    (c.get_index_of.ensures.index ∙ position-map string_bytes (bytes_eq c.args.text.now) c.self.inside.texts.keys)
