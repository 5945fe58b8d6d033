use Rattle.std.proofs.Common.{◌≡◌, ◌+◌, arith, rules, sym, Some, FitsSigned, w64}
use Rattle.std.specs.Map.{lookup, set_value}
use Rattle.std.specs.Ordering.{int_eq}
use Rattle.std.proofs.lemmas.Int.{to_z-of_z}
use Rattle.cube_values.proofs.BagLaws.{adds_found, adds_entry, some_set, count_found}
use Rattle.cube_values.proofs.table.Table.add.Goals as goal

pub returns-in-Some-clause-added : goal.returns-in-Some-clause-added
returns-in-Some-clause-added c =
    let fits : FitsSigned w64 c.args.value = c.ranges.value in
    let at_key = simp to_z-of_z at c.in-Some.ensures.value in
    let found : lookup (int_eq c.args.value) c.self.inside.counts.entries ≡ Some c.in-Some.count.now = sym at_key in
    let is : (c.get_mut.follows.lender (c.in-Some.count.now + c.args.times)).entries
    ≡ set_value (int_eq c.args.value) c.self.inside.counts.entries (c.in-Some.count.now + c.args.times) =
    simp to_z-of_z at (c.get_mut.follows.holds (c.in-Some.count.now + c.args.times)).0 in
    rw (← c.self.view_is)
    (adds_found c.self.inside.counts.entries (c.get_mut.follows.lender (c.in-Some.count.now + c.args.times)).entries
    c.args.value c.in-Some.count.now c.args.times found is)

pub invariant_of-self : goal.invariant_of-self
invariant_of-self c =
    let fits : FitsSigned w64 c.args.value = c.ranges.value in
    let is : (c.get_mut.follows.lender (c.in-Some.count.now + c.args.times)).entries
    ≡ set_value (int_eq c.args.value) c.self.inside.counts.entries (c.in-Some.count.now + c.args.times) =
    simp to_z-of_z at (c.get_mut.follows.holds (c.in-Some.count.now + c.args.times)).0 in
    some_set c.self.inside.counts.entries (c.get_mut.follows.lender (c.in-Some.count.now + c.args.times)).entries
    c.args.value (c.in-Some.count.now + c.args.times) is (omega (arith, c.requires.some)) c.self.invariant

pub returns-clause-added : goal.returns-clause-added
returns-clause-added c = rw (← c.self.view_is) (search (rules, adds_entry, to_z-of_z))

pub overflow_add-count : goal.overflow_add-count
overflow_add-count c =
    let fits : FitsSigned w64 c.args.value = c.ranges.value in
    let at_key = simp to_z-of_z at c.in-Some.ensures.value in
    let found : lookup (int_eq c.args.value) c.self.inside.counts.entries ≡ Some c.in-Some.count.now = sym at_key in
    let room = rw (← c.self.view_is) at c.requires.fits in
    omega (arith, room, count_found c.self.inside.counts.entries c.args.value c.in-Some.count.now found)
