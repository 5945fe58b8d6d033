use Rattle.std.proofs.Common.{◌≡◌, ◌∷◌, [], ◌∙◌, ℕ, List, ap, length, sym}
use Rattle.std.specs.Prelude.{All}
use Rattle.std.proofs.lemmas.List.Elements.{All-weaker}
use Rattle.cube_core.specs.declared.fact.Fact.{Fact}
use Rattle.cube_cells.specs.Coded.{IsCoded, IsCodedCell, lattice_of}
use Rattle.cube_cells.specs.Fill.{AreFilled, IsCubeOfAll, finest_set}
use Rattle.cube_cells.specs.Levels.{IsLeveled, cells_of}
use Rattle.cube_cells.specs.declared.cube.levels.Level.{Level}
use Rattle.cube_cells.proofs.Filling.LevelLaws.{IsCubeOfAll-AreFilled, bit_and-finest_set}
use Rattle.cube_cells.proofs.Cells.LeveledLaws.{sole_level}
use Rattle.cube_cells.proofs.cube.Cube.fill.Goals.{In_ok-self-inside}
use Rattle.cube_cells.proofs.cube.Cube.fill.Goals as goal

pub filled_levels-requires-clause-width : goal.filled_levels-requires-clause-width
filled_levels-requires-clause-width g c =
    let same : c.finest.inside.schema ≡ c.self.inside.schema =
    rw (← c.finest.view_is, ← c.self.view_is) at c.requires.schema in
    let one : c.finest.inside.sets.items ≡ finest_set (length c.self.inside.schema.dimensions) ∷ [] =
    rw (← c.finest.view_is, same) at c.requires.sets in
    let sole = sole_level c.finest.inside.levels.items c.remove-finest.result
    (finest_set (length c.self.inside.schema.dimensions)) c.finest.invariant one c.remove-finest.ensures.value in
    let each : All (IsCodedCell c.finest.inside.dictionaries.items (length c.self.inside.schema.measures))
    (cells_of c.finest.inside.levels.items) = rw same at c.finest.invariant.coded.each in
    let first : All (IsCodedCell c.finest.inside.dictionaries.items (length c.self.inside.schema.measures))
    c.remove-finest.result.cells.entries = rw sole.1 at each in
    rw (c.shrink_cells.ensures, c.measures-measures.ensures.value)
    (All-weaker (IsCodedCell c.finest.inside.dictionaries.items (length c.self.inside.schema.measures))
    (λ cell. length cell.1.bags ≡ length c.self.inside.schema.measures)
    (λ cell is. is.width) c.remove-finest.result.cells.entries first)

pub filled_levels-requires-clause-within : goal.filled_levels-requires-clause-within
filled_levels-requires-clause-within g c =
    let same : c.finest.inside.schema ≡ c.self.inside.schema =
    rw (← c.finest.view_is, ← c.self.view_is) at c.requires.schema in
    let one : c.finest.inside.sets.items ≡ finest_set (length c.self.inside.schema.dimensions) ∷ [] =
    rw (← c.finest.view_is, same) at c.requires.sets in
    let sole = sole_level c.finest.inside.levels.items c.remove-finest.result
    (finest_set (length c.self.inside.schema.dimensions)) c.finest.invariant one c.remove-finest.ensures.value in
    rw (sole.0, c.deref.ensures.value) (bit_and-finest_set (length c.self.inside.schema.dimensions)
    c.self.inside.sets.items c.self.invariant.coded.lattice.sets)

filled : (g : _) (c : In_ok-self-inside g) (facts : List Fact) → IsCubeOfAll facts c.args.finest
    → IsLeveled c.self.inside.schema c.self.inside.sets.items c.finest.inside.facts c.finest.inside.dictionaries.items
    c.in_ok-self-inside.field-0.items × IsCubeOfAll facts
    (lattice_of c.self.inside.schema c.self.inside.sets.items c.finest.inside.facts c.finest.inside.dictionaries.items
    (cells_of c.in_ok-self-inside.field-0.items))
filled g c facts of =
    let finest : Level _ = record { set = c.remove-finest.result.set; cells = c.shrink_cells.new.cells } in
    let same : c.finest.inside.schema ≡ c.self.inside.schema =
    rw (← c.finest.view_is, ← c.self.view_is) at c.requires.schema in
    let only : c.finest.inside.sets.items ≡ finest_set (length c.self.inside.schema.dimensions) ∷ [] =
    rw (← c.finest.view_is, same) at c.requires.sets in
    let sole = sole_level c.finest.inside.levels.items c.remove-finest.result
    (finest_set (length c.self.inside.schema.dimensions)) c.finest.invariant only c.remove-finest.ensures.value in
    let set : finest.set ≡ finest_set (length c.self.inside.schema.dimensions) = sole.0 in
    let one : c.finest.inside.sets.items ≡ finest.set ∷ [] = only ∙ ap (λ (s : ℕ). s ∷ []) (sym set) in
    let cells : finest.cells.entries ≡ cells_of c.finest.inside.levels.items = c.shrink_cells.ensures ∙ sym sole.1 in
    let is : IsCoded c.self.inside.schema
    (finest.set ∷ []) c.finest.inside.facts c.finest.inside.dictionaries.items finest.cells.entries =
    rw (same, one, ← cells) at c.finest.invariant.coded in
    let all : IsCubeOfAll facts (lattice_of c.self.inside.schema
    (finest.set ∷ []) c.finest.inside.facts c.finest.inside.dictionaries.items finest.cells.entries) =
    rw (← c.finest.view_is, same, one, ← cells) at of in
    let filled :
    AreFilled finest c.self.inside.sets.items (length c.self.inside.schema.measures) c.in_ok-self-inside.field-0.items =
    rw (c.deref.ensures.value, c.measures-measures.ensures.value) at c.in_ok-self-inside.ensures in
    IsCubeOfAll-AreFilled c.self.inside.schema c.self.inside.sets.items c.self.inside.facts c.finest.inside.facts
    c.self.inside.dictionaries.items c.finest.inside.dictionaries.items (cells_of c.self.inside.levels.items)
    finest c.in_ok-self-inside.field-0.items facts c.self.invariant.coded set is all filled

pub invariant_of-self : goal.invariant_of-self
invariant_of-self g c =
    (filled g (goal.at.invariant_of-self g c).In_ok-self-inside c.requires.facts.0 c.requires.facts.1).0

pub returns-clause-facts : goal.returns-clause-facts
returns-clause-facts g c = λ facts of. (filled g (goal.at.returns-clause-facts g c).In_ok-self-inside facts of).1
