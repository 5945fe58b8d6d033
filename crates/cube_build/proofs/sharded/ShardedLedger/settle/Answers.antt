use Rattle.std.proofs.Common.{◌≡◌, ◌<◌, ◌++◌, ℕ, false, take, drop, length, get_or, rules}
use Rattle.cube_cells.proofs.Tallies.ValueLaws.{take-append-drop}
use Rattle.cube_build.specs.Sharded.{AllSettle, SettleAlike, ShardView}
use Rattle.cube_build.proofs.ShardLedgerLaws.{keeps-settled}
use Rattle.cube_build.proofs.sharded.ShardedLedger.settle.Goals as goal

pub returns-clause-keeps : goal.returns-clause-keeps
returns-clause-keeps g c =
    let old = c.self.inside.shards in
    let new = c.settle_shards.new.shards in
    let settled : SettleAlike old.items new = rw c.as_mut_slice.ensures.value at c.settle_shards.ensures in
    let long : length new ≡ length old.items = settled.number in
    let whole : take old.len (new ++ drop (length new) old.items) ≡ new =
    take-append-drop old.items new old.len (search rules) long in
    let settle : AllSettle old.items new = settled.each in
    let none : (place : ℕ) (d : ShardView) → place < length new → (get_or new place d).is_spent ≡ false =
    rw (c.deref.ensures.value, whole) at c.is_any_spent.ensures c.if-is_any_spent.false in
    rw (← c.self.view_is, whole) (keeps-settled c.self.inside.fresh.schema old.items new c.self.inside.last
    c.self.inside.is_spent long settle none)
