use Rattle.std.proofs.Common.{ℤ, ℕ, ◌≡◌, ◌+◌, ◌<◌, ◌++◌, ◌∷◌, [], ◌∙◌, ap, length, arith, rules}
use Rattle.std.specs.List.{HoldsAt}
use Rattle.std.proofs.lemmas.Int.{to_z-of_z}
use Rattle.std.proofs.lemmas.List.Elements.{All-set, All-push}
use Rattle.cube_values.specs.Bag.{Bag, size_of}
use Rattle.cube_values.proofs.BagLaws.{adds_at, adds_pair, count_at}
use Rattle.cube_values.proofs.short.Short.add.Goals as goal

pub returns-in-Some-clause-added : goal.returns-in-Some-clause-added
returns-in-Some-clause-added c =
    let pairs : Bag = c.self.inside.pairs.items in
    let pair : ℤ × ℕ = c.index_mut.result.now in
    let within : c.in-Some.place < length pairs = search rules in
    let found : HoldsAt (λ e. e.0 ≡ c.args.value) pairs c.in-Some.place = search rules in
    let same : pair.0 ≡ c.args.value = ap (λ (p : ℤ × ℕ). p.0) c.index_mut.ensures.value ∙ found pair in
    λ h. rw (← c.self.view_is)
    (adds_at pairs c.in-Some.place pair c.args.value c.args.times within c.index_mut.ensures.value same)

pub returns-clause-added : goal.returns-clause-added
returns-clause-added c =
    let pairs : Bag = c.self.inside.pairs.items in
    let items : c.push.new.self.items ≡ pairs ++ (c.args.value, c.args.times) ∷ [] = search (rules, to_z-of_z) in
    λ h. rw (items, ← c.self.view_is) (adds_pair pairs c.args.value c.args.times)

pub overflow_add-index_mut : goal.overflow_add-index_mut
overflow_add-index_mut c =
    let pairs : Bag = c.self.inside.pairs.items in
    let within : c.in-Some.place < length pairs = search rules in
    omega (
      arith,
      c.requires.fits,
      ap size_of c.self.view_is,
      count_at pairs c.in-Some.place c.index_mut.result.now within c.index_mut.ensures.value,
    )

pub invariant_of-self : goal.invariant_of-self
invariant_of-self c = All-set (λ (e : ℤ × ℕ). 0 < e.1) c.self.inside.pairs.items c.in-Some.place
    (c.index_mut.result.now.0, c.index_mut.result.now.1 + c.args.times) (omega (arith, c.requires.some))
    c.self.invariant

pub invariant_of-self-2 : goal.invariant_of-self-2
invariant_of-self-2 c = rw c.in_ok-push.ensures.items
    (All-push (λ (e : ℤ × ℕ). 0 < e.1) c.self.inside.pairs.items _ c.self.invariant c.requires.some)
