use Rattle.std.proofs.Common.{rules, ◌≡◌, true, [], ◌∷◌}
use Rattle.std.proofs.lemmas.List.Elements.{All-append, All-cons, All-nil}
use Rattle.cube_cells.specs.Ranks.{ranks_of}
use Rattle.cube_cells.specs.Rows.{are_wanted_codes}
use Rattle.cube_cells.specs.declared.cube.ordered.Place.{Place}
use Rattle.cube_cells.proofs.Rows.PlaceLaws.{wanted-pushed}
use Rattle.cube_cells.proofs.cube.rows.push_places.Goals as goal

pub loop-codes-preserved-in-Continue-1 : goal.loop-codes-preserved-in-Continue-1
loop-codes-preserved-in-Continue-1 c =
    let place : Place =
    record { ranks = c.ranks_of-ranks.result; codes = c.in-Some.codes; cell = c.in-Some.cell } in
    let wanted : are_wanted_codes c.args.wants.now c.in-Some.codes.now.codes ≡ true = search rules in
    let before = rw c.in-Some.ensures.steps at c.loop-codes.invariant.cells in
    let same_ranks : Place → Type 0 = λ p. p.ranks ≡ ranks_of c.args.ranks.now p.codes.now.codes in
    rw c.in_ok-push.ensures.items (record {
      cells = wanted-pushed c.args.wants.now c.loop-codes.places.items place c.next.new.self _ wanted before;
      ranks = λ old. All-append same_ranks c.loop-codes.places.items (place ∷ []) (c.loop-codes.invariant.ranks old)
          (All-cons same_ranks place [] c.ranks_of-ranks.ensures (All-nil same_ranks));
    })
