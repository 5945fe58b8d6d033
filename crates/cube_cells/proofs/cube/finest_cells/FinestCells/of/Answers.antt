use Rattle.std.proofs.Common.{◌≡◌, ◌∷◌, [], ℕ, arith, length}
use Rattle.std.proofs.lemmas.Slice.Zip.{AllZip-long}
use Rattle.cube_cells.specs.Coded.{IsCoded, lattice_of}
use Rattle.cube_cells.specs.Fill.{IsCubeOfAll, finest_set}
use Rattle.cube_cells.specs.Ranking.{IsRanking}
use Rattle.cube_cells.proofs.Cells.SchemaLaws.{few_dimensions, its_schema}
use Rattle.cube_cells.proofs.Cells.LeveledLaws.{sole_level}
use Rattle.cube_cells.proofs.Filling.RankedLaws.{AreToWalk-ranked, IsCubeOfAll-ranked}
use Rattle.cube_cells.proofs.cube.finest_cells.FinestCells.of.Goals as goal

pub items_in_order-requires-clause-few : goal.items_in_order-requires-clause-few
items_in_order-requires-clause-few g c = rw c.deref.ensures.value (omega (
  arith,
  AllZip-long IsRanking c.finest.inside.dictionaries.items c.in_ok-ranked.ranked.items c.in_ok-ranked.ensures,
  c.finest.invariant.coded.lattice.dictionaries,
  few_dimensions (its_schema c.finest.invariant.coded.lattice),
))

pub invariant_of-result : goal.invariant_of-result
invariant_of-result g c =
    let n : ℕ = length c.finest.inside.schema.dimensions in
    let one : c.finest.inside.sets.items ≡ finest_set n ∷ [] = rw (← c.finest.view_is) at c.requires.sets in
    let sole = sole_level c.finest.inside.levels.items c.remove-level.result (finest_set n) c.finest.invariant one
    c.remove-level.ensures.value in
    let coded : IsCoded c.finest.inside.schema (finest_set n ∷ []) c.finest.inside.facts
    c.finest.inside.dictionaries.items c.remove-level.result.cells.entries =
    rw (one, sole.1) at c.finest.invariant.coded in
    let of : IsCubeOfAll c.requires.facts.0 (lattice_of c.finest.inside.schema (finest_set n ∷ [])
    c.finest.inside.facts c.finest.inside.dictionaries.items c.remove-level.result.cells.entries) =
    rw (← c.finest.view_is, one, sole.1) at c.requires.facts.1 in
    rw c.in_ok-texts.ensures (
      AreToWalk-ranked c.finest.inside.schema c.finest.inside.facts c.finest.inside.dictionaries.items
          c.remove-level.result.cells.entries c.in_ok-items.items.items c.in_ok-ranked.ranked.items c.requires.facts.0
          coded of c.in_ok-ranked.ensures (rw c.deref.ensures.value at c.in_ok-items.ensures.same)
          c.in_ok-items.ensures.order,
      rw (← c.finest.view_is) at c.requires.numbers,
    )

pub returns-clause-facts : goal.returns-clause-facts
returns-clause-facts g c = λ facts all.
    let n : ℕ = length c.finest.inside.schema.dimensions in
    let one : c.finest.inside.sets.items ≡ finest_set n ∷ [] = rw (← c.finest.view_is) at c.requires.sets in
    let sole = sole_level c.finest.inside.levels.items c.remove-level.result (finest_set n) c.finest.invariant one
    c.remove-level.ensures.value in
    let coded : IsCoded c.finest.inside.schema (finest_set n ∷ []) c.finest.inside.facts
    c.finest.inside.dictionaries.items c.remove-level.result.cells.entries =
    rw (one, sole.1) at c.finest.invariant.coded in
    let of : IsCubeOfAll facts (lattice_of c.finest.inside.schema (finest_set n ∷ [])
    c.finest.inside.facts c.finest.inside.dictionaries.items c.remove-level.result.cells.entries) =
    rw (← c.finest.view_is, one, sole.1) at all in
    rw c.in_ok-texts.ensures
    (IsCubeOfAll-ranked c.finest.inside.schema c.finest.inside.facts c.finest.inside.dictionaries.items
    c.remove-level.result.cells.entries _ c.in_ok-ranked.ranked.items facts coded of
    c.in_ok-ranked.ensures (rw c.deref.ensures.value at c.in_ok-items.ensures.same))
