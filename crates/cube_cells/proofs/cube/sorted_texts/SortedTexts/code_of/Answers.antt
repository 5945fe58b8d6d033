use Rattle.std.proofs.Common.{◌∙◌, [], get_or}
use Rattle.std.specs.Str.{bytes_eq}
use Rattle.cube_cells.proofs.Codes.DictionaryLaws.{position-map}
use Rattle.cube_cells.proofs.cube.sorted_texts.SortedTexts.code_of.Goals as goal

pub returns : goal.returns
returns c = rw (← c.self.view_is) ((rw c.deref.ensures.value at c.position_of.ensures)
    ∙ position-map (λ place. get_or c.self.inside.dictionary place []) (bytes_eq c.args.text.now)
    c.self.inside.places.items)
