use Rattle.std.proofs.Common.{ℤ, ℕ, List, ◌≡◌, ◌++◌, ◌∷◌, [], ap, rules, w32, to_z, of_z}
use Rattle.std.specs.Int.{int_min, int_max}
use Rattle.std.proofs.lemmas.Int.{to_z-of_z}
use Rattle.cube_values.proofs.NarrowLaws.{HasEnds-once_each_push, AddsTimes-once_each}
use Rattle.cube_values.proofs.narrow.Narrow.add.Goals as goal

pub invariant_of-self-2 : goal.invariant_of-self-2
invariant_of-self-2 c =
    let old : List ℤ = c.self.inside.numbers.items in
    let number : ℤ = c.in-Some.number in
    let items : c.push.new.self.items ≡ old ++ number ∷ [] = search rules in
    let low : to_z w32 (of_z w32 c.min-self-inside.result) ≡ int_min c.self.inside.least number =
    search (rules, to_z-of_z) in
    let high : to_z w32 (of_z w32 c.max-self-inside.result) ≡ int_max c.self.inside.greatest number =
    search (rules, to_z-of_z) in
    rw (items, low, high)
    (HasEnds-once_each_push old number c.self.inside.least c.self.inside.greatest c.self.invariant)

pub returns-clause-added : goal.returns-clause-added
returns-clause-added c =
    let old : List ℤ = c.self.inside.numbers.items in
    let number : ℤ = c.in-Some.number in
    let items : c.push.new.self.items ≡ old ++ number ∷ [] = search rules in
    let pair : (c.args.value, c.args.times) ≡ (number, 1) = search (rules, to_z-of_z) in
    let value : c.args.value ≡ number = ap (λ (p : ℤ × ℕ). p.0) pair in
    let times : c.args.times ≡ 1 = ap (λ (p : ℤ × ℕ). p.1) pair in
    λ h. rw (items, ← c.self.view_is, value, times) (AddsTimes-once_each old number)
