use Rattle.std.proofs.Common.{◌≡◌, ◌<◌, ◌++◌, ◌∙◌, ℕ, false, take, drop, length, get_or, ap, rules}
use Rattle.cube_cells.proofs.Tallies.ValueLaws.{take-append-drop}
use Rattle.cube_build.specs.Parted.{AllSettle}
use Rattle.cube_build.specs.declared.parted.Part.{Part}
use Rattle.cube_build.proofs.PartedLaws.{AreBehind-settled, MaySettle-behind}
use Rattle.cube_build.proofs.parted.Parted.settle.Goals as goal

pub settle_parts-requires-clause-each : goal.settle_parts-requires-clause-each
settle_parts-requires-clause-each g c = λ lifetimes live part d below.
    let fresh : c.self.inside.is_out_of_date ≡ false = search rules in
    let inside : part < length c.self.inside.parts.items = rw c.as_mut_slice.ensures.value at below in
    rw (c.as_slice.ensures.value, c.as_slice-2.ensures.value, c.as_mut_slice.ensures.value)
    (MaySettle-behind c.self.inside.ledger c.self.inside.parts.items c.self.inside.come.items c.self.inside.gone.items
    part d inside (c.self.invariant fresh))

pub invariant_of-self-else-is_any_spent : goal.invariant_of-self-else-is_any_spent
invariant_of-self-else-is_any_spent g c = λ fresh.
    let old = c.self.inside.parts in
    let new = c.settle_parts.new.parts in
    let long : length new ≡ length old.items = c.settle_parts.ensures.number ∙ ap length c.as_mut_slice.ensures.value in
    let whole : take old.len (new ++ drop (length new) old.items) ≡ new =
    take-append-drop old.items new old.len (search rules) long in
    let settle : AllSettle c.self.inside.come.items c.self.inside.gone.items old.items new =
    rw (
      c.as_slice.ensures.value,
      c.as_slice-2.ensures.value,
      c.as_mut_slice.ensures.value,
    ) at c.settle_parts.ensures.each in
    let none : (part : ℕ) (d : Part) → part < length new → (get_or new part d).is_spent ≡ false =
    rw (c.deref.ensures.value, whole) at c.is_any_spent.ensures c.if-is_any_spent.false in
    rw (whole, c.clear.ensures.items, c.clear-2.ensures.items)
    (AreBehind-settled c.self.inside.ledger old.items new c.self.inside.come.items c.self.inside.gone.items long settle
    none (c.self.invariant fresh))
