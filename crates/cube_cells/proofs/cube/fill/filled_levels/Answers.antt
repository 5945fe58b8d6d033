use Rattle.std.proofs.Common.{rules, ◌≡◌, ◌++◌, ◌∷◌, [], ℕ, ◌∙◌, ap, arith, false, sym, true, length}
use Rattle.std.proofs.lemmas.List.{append-nil}
use Rattle.std.proofs.lemmas.Result.{IfOk-weaker}
use Rattle.cube_cells.proofs.Filling.LevelLaws.{IsFiner-before, IsFiner-all}
use Rattle.cube_cells.proofs.cube.fill.filled_levels.Goals as goal
use Rattle.cube_cells.proofs.cube.fill.filled_levels.Goals.{in_default-via-in-Some+else-last-finest}
use Rattle.cube_cells.proofs.cube.fill.filled_levels.Goals.{in_default-via-in_default}

pub levels_from-requires-clause-finer : goal.levels_from-requires-clause-finer
levels_from-requires-clause-finer g c =
    let is : c.args.sets.now ≡ c.in-Some.coarser.now ++ c.args.finest.set ∷ [] =
    c.in-Some.ensures.cases.0 ∙ ap (λ (s : ℕ). c.in-Some.coarser.now ++ s ∷ []) c.if-last-finest.true in
    IsFiner-before c.args.finest.set c.args.sets.now c.in-Some.coarser.now is c.requires.within c.requires.ascending

pub levels_from-requires-in_default-clause-finer : goal.levels_from-requires-in_default-clause-finer
levels_from-requires-in_default-clause-finer g c = elim c.in_default.branch [
  | in_default-via-in-Some+else-last-finest w ↦
      IsFiner-all c.args.finest.set w.in-Some.last.now c.args.sets.now w.in-Some.coarser.now w.in-Some.ensures.cases.0
      w.if-last-finest.false c.requires.within c.requires.ascending
  | in_default-via-in_default w ↦
      let none : length c.args.sets.now ≡ 0 = search rules in
      λ k d inside. absurd (omega (arith, none, inside))
]

pub returns-in_ok-push-in-Some : goal.returns-in_ok-push-in-Some
returns-in_ok-push-in-Some g c = record {
  keeps_finest = true;
  coarser = c.in-Some.coarser.now;
  made = c.in_ok-levels-in-Some.levels.items;
  coarser_are = c.in-Some.ensures.cases.0
      ∙ ap (λ (s : ℕ). c.in-Some.coarser.now ++ s ∷ []) c.if-last-finest.true;
  makes = c.in_ok-levels-in-Some.ensures;
  levels_are = c.in_ok-push-in-Some.ensures.items;
}

pub returns-in_default : goal.returns-in_default
returns-in_default g c =
    let sets = c.args.sets.now in
    IfOk-weaker c.levels_from-in_default.result _ _ (λ levels makes. record {
      keeps_finest = false;
      coarser = sets;
      made = levels.items;
      coarser_are = sym (append-nil sets);
      makes = makes;
      levels_are = sym (append-nil levels.items);
    }) c.levels_from-in_default.ensures
