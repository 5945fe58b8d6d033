use Rattle.std.proofs.Common.{ℤ, List, [], ◌∷◌, ◌++◌, ◌≡◌, ◌<◌, ◌∙◌, None, refl, arith, rules, FitsSigned, w64}
use Rattle.std.specs.Prelude.{IsSome, ◌<ℤ◌}
use Rattle.std.proofs.lemmas.Int.{to_z-of_z}
use Rattle.cube_values.specs.Bag.{Bag, AddsOne, held_of, HasEnds}
use Rattle.cube_values.specs.Log.{IsSettled, without}
use Rattle.cube_values.proofs.BagLaws.{size_of_one}
use Rattle.cube_values.proofs.OwedLaws.{AddsOne-owed, HasEnds-taken, Owes-owed, Owes-nothing, written_back}
use Rattle.cube_values.proofs.log.Log.take.Goals as goal

pub invariant_of-self : goal.invariant_of-self
invariant_of-self c =
    let fits : FitsSigned w64 c.args.value = c.ranges.value in
    let pairs : Bag = c.self.inside.pairs.items in
    let new : Bag = c.take_held.new.pairs in
    let none : c.self.inside.ends ≡ None = search rules in
    let settled : IsSettled pairs c.self.inside.taken.items = search rules in
    let items = written_back new pairs c.self.inside.pairs.len c.self.inside.pairs.ok.0
    (c.take_held.auto.pairs ∙ c.deref_mut.ensures.len) in
    let taken : AddsOne new pairs c.args.value = search (rules, to_z-of_z) in
    rw (items, none, settled.none) (
      Owes-nothing pairs new c.self.inside.taken.items c.self.inside.total c.self.invariant.0
          (omega (arith, size_of_one new pairs c.args.value taken)),
      tt,
      record { ordered = c.take_held.ensures.ordered; none = refl },
    )

pub invariant_of-self-else-not-owe : goal.invariant_of-self-else-not-owe
invariant_of-self-else-not-owe c =
    let fits : FitsSigned w64 c.args.value = c.ranges.value in
    let pairs : Bag = c.self.inside.pairs.items in
    let owed : List ℤ = c.self.inside.taken.items in
    let held : 0 < held_of (without owed pairs) c.args.value = rw (← c.self.view_is) at c.requires.held in
    let items : c.owe.new.taken.items ≡ owed ++ c.args.value ∷ [] = search (rules, to_z-of_z) in
    let some : IsSome c.self.inside.total = search rules in
    let old : HasEnds (without owed pairs) c.in-Some.ends.least c.in-Some.ends.greatest = search rules in
    let above : c.in-Some.ends.least <ℤ c.args.value = search (rules, to_z-of_z) in
    let below : c.args.value <ℤ c.in-Some.ends.greatest = search (rules, to_z-of_z) in
    rw (items, c.in-Some.is) (
      Owes-owed pairs owed c.args.value c.self.inside.total c.self.invariant.0 some held,
      HasEnds-taken (without owed pairs) (without (owed ++ c.args.value ∷ []) pairs) c.args.value c.in-Some.ends.least
          c.in-Some.ends.greatest old (AddsOne-owed owed pairs c.args.value held) above below,
      tt,
    )

pub returns-else-not-owe : goal.returns-else-not-owe
returns-else-not-owe c =
    let fits : FitsSigned w64 c.args.value = c.ranges.value in
    let pairs : Bag = c.self.inside.pairs.items in
    let owed : List ℤ = c.self.inside.taken.items in
    let held : 0 < held_of (without owed pairs) c.args.value = rw (← c.self.view_is) at c.requires.held in
    let items : c.owe.new.taken.items ≡ owed ++ c.args.value ∷ [] = search (rules, to_z-of_z) in
    rw (items, ← c.self.view_is) (AddsOne-owed owed pairs c.args.value held)
