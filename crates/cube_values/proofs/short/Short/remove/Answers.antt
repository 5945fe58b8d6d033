use Rattle.std.proofs.Common.{ℤ, ℕ, ◌≡◌, ◌<◌, ◌-◌, ◌∙◌, All, false, length, ap, arith, rules}
use Rattle.std.specs.List.{HoldsAt}
use Rattle.std.specs.Ordering.{int_eq}
use Rattle.std.proofs.lemmas.List.Elements.{All-set}
use Rattle.cube_values.specs.Bag.{Bag}
use Rattle.cube_values.proofs.BagLaws.{held_of-absent, takes_at, takes_pair}
use Rattle.cube_values.proofs.PlaceLaws.{read_twice}
use Rattle.cube_values.proofs.short.Short.remove.Goals as goal

pub returns-in_default-clause-absent : goal.returns-in_default-clause-absent
returns-in_default-clause-absent c =
    let none : All (λ e. int_eq c.args.value e.0 ≡ false) c.self.inside.pairs.items = search rules in
    rw (← c.self.view_is) (held_of-absent c.self.inside.pairs.items c.args.value none)

pub returns-else-index-gt1-clause-taken : goal.returns-else-index-gt1-clause-taken
returns-else-index-gt1-clause-taken c =
    let within : c.in-Some.place < length c.self.inside.pairs.items = search rules in
    let found : HoldsAt (λ e. e.0 ≡ c.args.value) c.self.inside.pairs.items c.in-Some.place = search rules in
    rw (c.swap_remove.ensures.items, ← c.self.view_is)
    (takes_pair c.self.inside.pairs.items c.in-Some.place c.swap_remove.result c.index.result.now c.args.value within
    c.swap_remove.ensures.value c.index.ensures found c.if-index-gt1.false c.self.invariant)

pub overflow_sub-index_mut : goal.overflow_sub-index_mut
overflow_sub-index_mut c =
    let pairs : Bag = c.self.inside.pairs.items in
    let pair : ℤ × ℕ = c.index_mut.result.now in
    let within : c.in-Some.place < length pairs = search rules in
    let same = ap (λ (p : ℤ × ℕ). p.1)
    (read_twice pairs c.in-Some.place pair c.index.result.now within c.index_mut.ensures.value c.index.ensures) in
    omega (arith, c.if-index-gt1.true, same)

pub invariant_of-self : goal.invariant_of-self
invariant_of-self c =
    let pairs : Bag = c.self.inside.pairs.items in
    let pair : ℤ × ℕ = c.index_mut.result.now in
    let within : c.in-Some.place < length pairs = search rules in
    let same = ap (λ (p : ℤ × ℕ). p.1)
    (read_twice pairs c.in-Some.place pair c.index.result.now within c.index_mut.ensures.value c.index.ensures) in
    All-set (λ (e : ℤ × ℕ). 0 < e.1) pairs c.in-Some.place (pair.0, pair.1 - 1)
    (omega (arith, c.if-index-gt1.true, same)) c.self.invariant

pub returns-then-index-gt1-clause-taken : goal.returns-then-index-gt1-clause-taken
returns-then-index-gt1-clause-taken c =
    let pairs : Bag = c.self.inside.pairs.items in
    let pair : ℤ × ℕ = c.index_mut.result.now in
    let within : c.in-Some.place < length pairs = search rules in
    let same = ap (λ (p : ℤ × ℕ). p.1)
    (read_twice pairs c.in-Some.place pair c.index.result.now within c.index_mut.ensures.value c.index.ensures) in
    let found : HoldsAt (λ e. e.0 ≡ c.args.value) pairs c.in-Some.place = search rules in
    rw (← c.self.view_is) (takes_at pairs c.in-Some.place pair c.args.value within c.index_mut.ensures.value
    (ap (λ (p : ℤ × ℕ). p.0) c.index_mut.ensures.value ∙ found pair) (omega (arith, c.if-index-gt1.true, same)))
