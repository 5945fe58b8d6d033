use Rattle.std.proofs.Common.{ℤ, List, ◌≡◌, ◌++◌, rules, w32, to_z, of_z}
use Rattle.std.specs.Int.{int_min, int_max}
use Rattle.std.proofs.lemmas.Int.{to_z-of_z}
use Rattle.cube_values.proofs.NarrowLaws.{HasEnds-once_each_append, AddsBag-once_each}
use Rattle.cube_values.proofs.narrow.Narrow.append_list.Goals as goal

pub invariant_of-self-2 : goal.invariant_of-self-2
invariant_of-self-2 c =
    let old : List ℤ = c.self.inside.numbers.items in
    let more : List ℤ = c.args.more.now in
    let items : c.extend_from_slice.new.self.items ≡ old ++ more = search rules in
    let low : to_z w32 (of_z w32 c.min-self-inside.result) ≡ int_min c.self.inside.least c.args.ends.0 =
    search (rules, to_z-of_z) in
    let high : to_z w32 (of_z w32 c.max-self-inside.result) ≡ int_max c.self.inside.greatest c.args.ends.1 =
    search (rules, to_z-of_z) in
    rw (items, low, high) (HasEnds-once_each_append old more c.self.inside.least c.self.inside.greatest
    c.args.ends.0 c.args.ends.1 c.self.invariant c.requires)

pub returns-clause-added : goal.returns-clause-added
returns-clause-added c =
    let old : List ℤ = c.self.inside.numbers.items in
    let more : List ℤ = c.args.more.now in
    let items : c.extend_from_slice.new.self.items ≡ old ++ more = search rules in
    λ h. rw (items, ← c.self.view_is) (AddsBag-once_each old more)
