use Rattle.std.proofs.Common.{◌<◌, ◌≤◌, ◌∙◌, ◌++◌, ap, arith, get_or, length, map, refl, sym, List}
use Rattle.std.proofs.lemmas.List.{append-nil, take_all}
use Rattle.cube_core.specs.Text.{coord_text}
use Rattle.cube_core.specs.declared.key.Coord.{Coord}
use Rattle.cube_core.specs.declared.key.Coord.TheVariants as coord
use Rattle.cube_cells.specs.Codes.{coords_at}
use Rattle.cube_cells.proofs.Codes.KeyLaws.{length-coords_at}
use Rattle.cube_lines.specs.Parts.{parts}
use Rattle.cube_text.proofs.FieldLaws.{AddsParts-next}
use Rattle.cube_text.proofs.walked.put_key_of.Goals as goal

pub loop-dimension-init : goal.loop-dimension-init
loop-dimension-init g c = λ are. sym (append-nil c.args.text.now.items)

pub loop-dimension-preserved : goal.loop-dimension-preserved
loop-dimension-preserved g c = λ are.
    let coords = coords_at c.args.cells.now.dictionaries c.args.codes.now.codes in
    let inside : c.loop-dimension.dimension < length coords = omega (
      arith,
      c.loop-dimension-test.true,
      c.dimensions-dimension-end.ensures,
      length-coords_at c.args.cells.now.dictionaries c.args.codes.now.codes,
    ) in
    AddsParts-next coord_text coords c.loop-dimension.dimension coord.All
    (get_or coords c.loop-dimension.dimension coord.All) c.args.text.now.items c.loop-dimension.text.items
    c.put_coord.new.text.items inside refl (c.loop-dimension.invariant are) (c.in_ok-put_coord.ensures are)

pub returns : goal.returns
returns g c = λ are.
    let coords = coords_at c.args.cells.now.dictionaries c.args.codes.now.codes in
    let past : length coords ≤ c.loop-dimension.dimension = omega (
      arith,
      c.loop-dimension-test.false,
      c.dimensions-dimension-end.ensures,
      length-coords_at c.args.cells.now.dictionaries c.args.codes.now.codes,
    ) in
    c.loop-dimension.invariant are ∙ ap (λ (cs : List Coord). c.args.text.now.items ++ parts (map coord_text cs))
    (take_all c.loop-dimension.dimension coords past)
