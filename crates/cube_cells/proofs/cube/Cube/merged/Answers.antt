use Rattle.std.proofs.Common.{rules, ◌≡◌, ◌∷◌, ◌++◌, ◌+◌, [], ◌∙◌, ℕ, List, ap, length, sym}
use Rattle.cube_core.specs.declared.fact.Fact.{Fact}
use Rattle.cube_cells.specs.Coded.{lattice_of}
use Rattle.cube_cells.specs.Fill.{IsCubeOfAll, finest_set}
use Rattle.cube_cells.specs.Levels.{IsLeveled, cells_of}
use Rattle.cube_cells.specs.declared.cube.levels.Level.{Level}
use Rattle.cube_cells.proofs.Cells.LeveledLaws.{sole_level}
use Rattle.cube_cells.proofs.Filling.MergedLaws.{AreMergeable, AreMergeable-IsLeveled, HaveOneWidth-AreMergeable}
use Rattle.cube_cells.proofs.Filling.MergedLaws.{IsLeveled-merged}
use Rattle.cube_cells.proofs.cube.Cube.merged.Goals.{After-remove, In_ok-dictionaries}
use Rattle.cube_cells.proofs.cube.Cube.merged.Goals as goal

-- the two cubes, with the columns of the texts of both
both : (g : _) (c : After-remove g) (facts others : List Fact) → IsCubeOfAll facts c.args.self
    → IsCubeOfAll others c.args.more
    → AreMergeable c.self.inside.schema c.self.inside.facts c.more.inside.facts c.self.inside.dictionaries.items
    c.more.inside.dictionaries.items c.in_ok-columns.columns.items c.remove-finest.result.cells.entries
    c.remove.result.cells.entries facts others
both g c facts others of of_more =
    AreMergeable-IsLeveled c.self.inside.schema c.more.inside.schema c.self.inside.sets.items c.more.inside.sets.items
    c.self.inside.facts c.more.inside.facts c.self.inside.dictionaries.items c.more.inside.dictionaries.items
    c.in_ok-columns.columns.items c.self.inside.levels.items c.more.inside.levels.items c.remove-finest.result
    c.remove.result facts others c.self.invariant c.more.invariant
    (rw (← c.more.view_is, ← c.self.view_is) at c.requires.schema) (rw (← c.self.view_is) at c.requires.sets)
    (rw (← c.more.view_is) at c.requires.more_sets) c.remove-finest.ensures.value c.remove.ensures.value
    (rw c.deref.ensures.value at c.in_ok-columns.ensures) (rw (← c.self.view_is) at of)
    (rw (← c.more.view_is) at of_more)

pub merge_recoded-requires-clause-width : goal.merge_recoded-requires-clause-width
merge_recoded-requires-clause-width g c =
    let at = goal.at.merge_recoded-requires-clause-width g c in
    rw c.deref-2.ensures.value (HaveOneWidth-AreMergeable c.self.inside.schema c.self.inside.facts
    c.more.inside.facts c.self.inside.dictionaries.items c.more.inside.dictionaries.items
    c.in_ok-columns.columns.items c.remove-finest.result.cells.entries c.remove.result.cells.entries
    c.requires.facts.0 c.requires.more_facts.0
    (both g at.After-remove c.requires.facts.0 c.requires.more_facts.0 c.requires.facts.1 c.requires.more_facts.1)).0

pub merge_recoded-requires-clause-set : goal.merge_recoded-requires-clause-set
merge_recoded-requires-clause-set g c =
    let at = goal.at.merge_recoded-requires-clause-set g c in
    rw c.deref-2.ensures.value (HaveOneWidth-AreMergeable c.self.inside.schema c.self.inside.facts
    c.more.inside.facts c.self.inside.dictionaries.items c.more.inside.dictionaries.items
    c.in_ok-columns.columns.items c.remove-finest.result.cells.entries c.remove.result.cells.entries
    c.requires.facts.0 c.requires.more_facts.0
    (both g at.After-remove c.requires.facts.0 c.requires.more_facts.0 c.requires.facts.1 c.requires.more_facts.1)).1

made : (g : _) (c : In_ok-dictionaries g) (facts others : List Fact) → IsCubeOfAll facts c.args.self
    → IsCubeOfAll others c.args.more
    → IsLeveled c.self.inside.schema c.self.inside.sets.items c.in-Some.facts
    c.in_ok-dictionaries.dictionaries.items c.in_ok-levels.levels.items × IsCubeOfAll (others ++ facts)
    (lattice_of c.self.inside.schema c.self.inside.sets.items c.in-Some.facts
    c.in_ok-dictionaries.dictionaries.items (cells_of c.in_ok-levels.levels.items))
made g c facts others of of_more =
    let number : c.in-Some.facts ≡ c.self.inside.facts + c.more.inside.facts = search rules in
    let finest : Level _ = record { set = c.remove-finest.result.set; cells = c.merge_recoded.new.cells } in
    let only : c.self.inside.sets.items ≡ finest_set (length c.self.inside.schema.dimensions) ∷ [] =
    rw (← c.self.view_is) at c.requires.sets in
    let set : finest.set ≡ finest_set (length c.self.inside.schema.dimensions) = (sole_level c.self.inside.levels.items
    c.remove-finest.result (finest_set (length c.self.inside.schema.dimensions)) c.self.invariant only
    c.remove-finest.ensures.value).0 in
    let one : c.self.inside.sets.items ≡ finest.set ∷ [] = only ∙ ap (λ (s : ℕ). s ∷ []) (sym set) in
    rw (one, number, c.in_ok-dictionaries.ensures, c.in_ok-levels.ensures) (IsLeveled-merged c.self.inside.schema
    c.self.inside.facts c.more.inside.facts c.self.inside.dictionaries.items c.more.inside.dictionaries.items
    c.in_ok-columns.columns.items c.remove-finest.result.cells.entries c.remove.result.cells.entries facts others
    finest (both g (goal.at.In_ok-dictionaries g c).After-remove facts others of of_more) set
    (rw c.deref-2.ensures.value at c.in_ok-merge_recoded.ensures))

pub invariant_of-result : goal.invariant_of-result
invariant_of-result g c =
    (made g (goal.at.invariant_of-result g c).In_ok-dictionaries c.requires.facts.0 c.requires.more_facts.0
    c.requires.facts.1 c.requires.more_facts.1).0

pub returns-clause-facts : goal.returns-clause-facts
returns-clause-facts g c = λ facts others of of_more.
    (made g (goal.at.returns-clause-facts g c).In_ok-dictionaries facts others of of_more).1
