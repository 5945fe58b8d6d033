use Rattle.std.proofs.Common.{◌≡◌, rules, sym, None, FitsSigned, w64}
use Rattle.std.specs.List.Sorted.{IsPermutation}
use Rattle.std.specs.Map.{lookup, remove_entry}
use Rattle.std.specs.Ordering.{int_eq}
use Rattle.std.proofs.lemmas.Int.{to_z-of_z}
use Rattle.cube_values.proofs.BagLaws.{held_of_none, some_left, takes_entry}
use Rattle.cube_values.proofs.table.Table.remove.Goals as goal

pub returns-in_default-clause-absent : goal.returns-in_default-clause-absent
returns-in_default-clause-absent c =
    let none : lookup (int_eq c.args.value) c.self.inside.counts.entries ≡ None = search rules in
    rw (← c.self.view_is) (held_of_none c.args.value c.self.inside.counts.entries none)

pub invariant_of-self-else-count-gt1 : goal.invariant_of-self-else-count-gt1
invariant_of-self-else-count-gt1 c =
    let moved :
    IsPermutation (remove_entry (int_eq c.args.value) c.self.inside.counts.entries) c.take_out.new.counts.entries =
    search (rules, to_z-of_z) in
    some_left c.self.inside.counts.entries c.take_out.new.counts.entries c.args.value moved c.self.invariant

pub returns-else-count-gt1-clause-taken : goal.returns-else-count-gt1-clause-taken
returns-else-count-gt1-clause-taken c =
    let fits : FitsSigned w64 c.args.value = c.ranges.value in
    let moved = simp to_z-of_z at c.take_out.ensures in
    let found = simp to_z-of_z at c.in-Some.ensures in
    rw (← c.self.view_is)
    (takes_entry c.self.inside.counts.entries c.take_out.new.counts.entries c.args.value c.in-Some.count
    (sym found) c.if-count-gt1.false c.self.invariant moved)
