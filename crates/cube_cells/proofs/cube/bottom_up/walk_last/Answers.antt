use Rattle.std.proofs.Common.{◌≡◌, ◌≤◌, ◌-◌, ◌^◌, ◌∷◌, [], List, ap, arith, length, pow_mono, refl, rules}
use Rattle.std.proofs.lemmas.Result.{on_ok_weaker}
use Rattle.cube_cells.specs.declared.cube.codes.Codes.{Codes}
use Rattle.cube_cells.proofs.Filling.KeptKeyLaws.{TakesWalk-PutsKept}
use Rattle.cube_cells.proofs.cube.bottom_up.walk_last.Goals as goal

-- a list with no item
none : (keys : List Codes) → length keys ≡ 0 → keys ≡ []
none [] empty = refl
none (codes ∷ keys) empty = absurd (omega (arith, empty))

pub put_kept-requires : goal.put_kept-requires
put_kept-requires g c =
    let most : 2 ^ (c.args.dimensions - c.args.from) ≤ 2 ^ 4 = pow_mono c.requires.few in
    record {
      few = omega (arith, c.requires.item.1.within, c.requires.from);
      from = c.requires.from;
      room = omega (arith, most, ap (λ (keys : List Codes). length keys) c.new-keys.ensures);
    }

pub returns-then-is_empty : goal.returns-then-is_empty
returns-then-is_empty g c =
    let keys = c.put_kept.new.keys.items in
    let puts = rw c.new-keys.ensures at c.put_kept.ensures.keys in
    let empty : length keys ≡ 0 = search (rules, arith) in
    TakesWalk-PutsKept g.S.TakesCells.takes c.args.kept.now c.args.dimensions c.args.from c.args.codes.now
    c.args.cell.now keys c.args.sink.now c.args.sink.now c.requires.item puts (rw (none keys empty) refl)

pub returns : goal.returns
returns g c =
    let puts = rw c.new-keys.ensures at c.put_kept.ensures.keys in
    on_ok_weaker c.take_cell.result (λ taken. TakesWalk-PutsKept g.S.TakesCells.takes c.args.kept.now
    c.args.dimensions c.args.from c.args.codes.now c.args.cell.now c.put_kept.new.keys.items c.args.sink.now
    c.take_cell.new.self c.requires.item puts taken) (rw c.as_slice.ensures.value at c.take_cell.ensures)
