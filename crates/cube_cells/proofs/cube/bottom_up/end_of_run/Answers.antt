use Rattle.std.proofs.Common.{rules, ◌≡◌, ◌<◌, ℕ, inl, inr, sym, ◌∙◌, ap, arith, length, get_or}
use Rattle.std.proofs.lemmas.Bool.{cases_lt}
use Rattle.cube_cells.specs.BottomUp.{cells_of_items, column_of}
use Rattle.cube_cells.proofs.Filling.BottomUpLaws.{column_of-item, length-column_of}
use Rattle.cube_cells.proofs.cube.bottom_up.end_of_run.Goals as goal

pub loop-end-init : goal.loop-end-init
loop-end-init g c =
    let items = c.args.items.now in
    let at : get_or (column_of c.args.from (cells_of_items items)) c.args.start 0
    ≡ get_or (get_or items c.args.start c.index-items-start.result).codes.codes c.args.from 0 =
    column_of-item c.args.from items c.args.start c.index-items-start.result c.requires.start in
    record {
      after = omega arith;
      within = omega (arith, c.requires.start);
      first = sym at;
      same = λ k after before.
          let here : k ≡ c.args.start = omega (arith, after, before) in
          ap (λ (i : ℕ). get_or (column_of c.args.from (cells_of_items items)) i 0) here ∙ at;
    }

pub loop-end-preserved : goal.loop-end-preserved
loop-end-preserved g c =
    let items = c.args.items.now in
    let end = c.loop-end.end in
    let inside : end < length items = omega (arith, c.loop-end-test.true) in
    let at : get_or (column_of c.args.from (cells_of_items items)) end 0
    ≡ get_or (get_or items end c.index-items-end.result).codes.codes c.args.from 0 =
    column_of-item c.args.from items end c.index-items-end.result inside in
    let same : get_or (get_or items end c.index-items-end.result).codes.codes c.args.from 0
    ≡ get_or (get_or items c.args.start c.index-items-start.result).codes.codes c.args.from 0 = search rules in
    record {
      after = omega (arith, c.loop-end.invariant.after);
      within = omega (arith, inside);
      first = c.loop-end.invariant.first;
      same = λ k after before. elim (cases_lt k end) [
        | inl earlier ↦ c.loop-end.invariant.same k after earlier
        | inr later ↦
            let here : k ≡ end = omega (arith, later, before) in
            ap (λ (i : ℕ). get_or (column_of c.args.from (cells_of_items items)) i 0) here ∙ at ∙ same
      ];
    }

pub returns-else-items-end : goal.returns-else-items-end
returns-else-items-end g c =
    let items = c.args.items.now in
    let end = c.loop-end.end in
    let inside : end < length items = omega (arith, c.loop-end-test.true) in
    let at : get_or (column_of c.args.from (cells_of_items items)) end 0
    ≡ get_or (get_or items end c.index-items-end.result).codes.codes c.args.from 0 =
    column_of-item c.args.from items end c.index-items-end.result inside in
    let apart : get_or (get_or items end c.index-items-end.result).codes.codes c.args.from 0
    ≡ get_or (get_or items c.args.start c.index-items-start.result).codes.codes c.args.from 0 → ⊥ = search rules in
    record {
      after = c.loop-end.invariant.after;
      within = omega (arith, c.loop-end.invariant.within, length-column_of c.args.from items);
      same = λ k after before. c.loop-end.invariant.same k after before ∙ c.loop-end.invariant.first;
      other = λ more same. apart (sym at ∙ same ∙ sym c.loop-end.invariant.first);
    }
