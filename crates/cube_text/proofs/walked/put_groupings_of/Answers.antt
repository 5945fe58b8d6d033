use Rattle.std.proofs.Common.{◌<◌, ◌≤◌, ◌∙◌, ◌++◌, ◌∷◌, [], ap, arith, get_or, length, map, refl, subst, ℕ, List}
use Rattle.std.proofs.lemmas.List.{take_all}
use Rattle.cube_core.specs.Text.{grouping_text}
use Rattle.cube_core.specs.declared.key.Coord.{Coord}
use Rattle.cube_core.specs.declared.key.Coord.TheVariants as coord
use Rattle.cube_cells.specs.Codes.{coords_at}
use Rattle.cube_cells.proofs.Codes.KeyLaws.{length-coords_at}
use Rattle.cube_lines.specs.Parts.{AddsParts, parts}
use Rattle.cube_text.proofs.FieldLaws.{AddsParts-next}
use Rattle.cube_text.proofs.walked.put_groupings_of.Goals as goal

pub loop-dimension-preserved : goal.loop-dimension-preserved
loop-dimension-preserved g c =
    let coords = coords_at c.args.cells.now.dictionaries c.args.codes.now.codes in
    let inside : c.loop-dimension.dimension < length coords = omega (
      arith,
      c.loop-dimension-test.true,
      c.dimensions-dimension-end.ensures,
      length-coords_at c.args.cells.now.dictionaries c.args.codes.now.codes,
    ) in
    let within : c.loop-dimension.dimension < length c.args.cells.now.dictionaries = omega (
      arith,
      c.loop-dimension-test.true,
      c.dimensions-dimension-end.ensures,
    ) in
    AddsParts-next grouping_text coords c.loop-dimension.dimension coord.All
    (get_or coords c.loop-dimension.dimension coord.All) c.args.text.now.items c.loop-dimension.text.items
    c.push_grouping.new.text.items inside refl c.loop-dimension.invariant
    (subst (λ (t : List ℕ). AddsParts (t ∷ []) c.loop-dimension.text.items c.push_grouping.new.text.items)
    (c.grouping_at.ensures c.args.cells.now.dictionaries within) c.in_ok-push_grouping.ensures)

pub returns : goal.returns
returns g c =
    let coords = coords_at c.args.cells.now.dictionaries c.args.codes.now.codes in
    let past : length coords ≤ c.loop-dimension.dimension = omega (
      arith,
      c.loop-dimension-test.false,
      c.dimensions-dimension-end.ensures,
      length-coords_at c.args.cells.now.dictionaries c.args.codes.now.codes,
    ) in
    c.loop-dimension.invariant ∙ ap (λ (cs : List Coord). c.args.text.now.items ++ parts (map grouping_text cs))
    (take_all c.loop-dimension.dimension coords past)
