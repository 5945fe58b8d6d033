use Rattle.std.proofs.Common.{ℤ, ℕ, List, ◌≡◌, ◌++◌, ◌∷◌, [], ap, rules, w32, to_z, of_z}
use Rattle.std.specs.Int.{int_min, int_max}
use Rattle.std.proofs.lemmas.Int.{to_z-of_z}
use Rattle.cube_values.specs.Bag.{Bag}
use Rattle.cube_values.proofs.BagLaws.{adds_pair}
use Rattle.cube_values.proofs.OrderedLaws.{IsListed-push}
use Rattle.cube_values.proofs.ordered.Ordered.add.Goals as goal

pub invariant_of-self-2 : goal.invariant_of-self-2
invariant_of-self-2 c =
    let old : List ℤ = c.self.inside.numbers.items in
    let bag : Bag = c.self.inside.trace.bag in
    let number : ℤ = c.in-Some.number in
    let items : c.push.new.self.items ≡ old ++ number ∷ [] = search rules in
    let low : to_z w32 (of_z w32 c.min-self-inside.result) ≡ int_min c.self.inside.least number =
    search (rules, to_z-of_z) in
    let high : to_z w32 (of_z w32 c.max-self-inside.result) ≡ int_max c.self.inside.greatest number =
    search (rules, to_z-of_z) in
    let pair : (c.args.value, c.args.times) ≡ (number, 1) = search (rules, to_z-of_z) in
    let value : c.args.value ≡ number = ap (λ (p : ℤ × ℕ). p.0) pair in
    let trace : c.and-self-inside.result.bag ≡ bag ++ (number, 1) ∷ [] = search (rules, to_z-of_z) in
    rw (items, low, high, trace) (IsListed-push bag old c.self.inside.taken.items number c.self.inside.sorted
    c.self.inside.least c.self.inside.greatest c.self.invariant)

pub returns-clause-added : goal.returns-clause-added
returns-clause-added c =
    let bag : Bag = c.self.inside.trace.bag in
    let number : ℤ = c.in-Some.number in
    let pair : (c.args.value, c.args.times) ≡ (number, 1) = search (rules, to_z-of_z) in
    let value : c.args.value ≡ number = ap (λ (p : ℤ × ℕ). p.0) pair in
    let times : c.args.times ≡ 1 = ap (λ (p : ℤ × ℕ). p.1) pair in
    let trace : c.and-self-inside.result.bag ≡ bag ++ (number, 1) ∷ [] = search (rules, to_z-of_z) in
    λ h. rw (c.settle_where_due.ensures, trace, ← c.self.view_is, value, times) (adds_pair bag number 1)
