use Rattle.std.proofs.Common.{rules, ◌≡◌, ◌+◌, ◌-◌, ◌^◌, ◌<◌, ◌≤◌, arith, length}
use Rattle.cube_cells.proofs.Filling.KeptKeyLaws.{PutsKept-both, PutsKept-if, PutsKept-none, keys_left}
use Rattle.cube_cells.proofs.cube.bottom_up.+put_kept.Goals as goal

pub returns-then-from-dimensions-clause-keys : goal.returns-then-from-dimensions-clause-keys
returns-then-from-dimensions-clause-keys t c =
    let all : c.args.from ≡ c.args.dimensions = search rules in
    PutsKept-if c.args.kept.now c.args.dimensions c.args.from c.args.codes.now c.args.keys.now.items
    c.put_if_kept.new.keys.items all c.put_if_kept.ensures

pub returns-then-not-is_any_kept-clause-keys : goal.returns-then-not-is_any_kept-clause-keys
returns-then-not-is_any_kept-clause-keys t c =
    PutsKept-none c.args.kept.now c.args.dimensions c.args.from c.args.codes.now c.args.keys.now.items
    (c.is_any_kept.ensures c.if-not-is_any_kept.true)

pub put_kept-requires : goal.put_kept-requires
put_kept-requires t c =
    let below : c.args.from < c.args.dimensions = omega (arith, c.requires.from, c.if-from-dimensions.false) in
    let room : length c.args.keys.now.items + 2 ^ (c.args.dimensions - (c.args.from + 1)) ≤ 16 =
    omega (arith, c.requires.room, keys_left c.args.dimensions c.args.from below) in
    search rules

pub put_kept-requires-2 : goal.put_kept-requires-2
put_kept-requires-2 t c =
    let below : c.args.from < c.args.dimensions = omega (arith, c.requires.from, c.if-from-dimensions.false) in
    let room : length c.put_kept.new.keys.items + 2 ^ (c.args.dimensions - (c.args.from + 1)) ≤ 16 =
    omega (arith, c.requires.room, keys_left c.args.dimensions c.args.from below, c.put_kept.ensures.room) in
    search rules

pub returns-clause-room : goal.returns-clause-room
returns-clause-room t c =
    let below : c.args.from < c.args.dimensions = omega (arith, c.requires.from, c.if-from-dimensions.false) in
    omega (
      arith,
      keys_left c.args.dimensions c.args.from below,
      c.put_kept.ensures.room,
      c.put_kept-2.ensures.room,
    )

pub returns-clause-keys : goal.returns-clause-keys
returns-clause-keys t c =
    let below : c.args.from < c.args.dimensions = omega (arith, c.requires.from, c.if-from-dimensions.false) in
    PutsKept-both c.args.kept.now c.args.dimensions c.args.from c.args.codes.now c.args.keys.now.items
    c.put_kept.new.keys.items c.put_kept-2.new.keys.items below c.put_kept.ensures.keys
    (rw c.with_all.ensures at c.put_kept-2.ensures.keys)
