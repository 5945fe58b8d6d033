use Rattle.std.proofs.Common.{ℤ, ℕ, sym, subst, rules, FitsSigned, w64}
use Rattle.std.proofs.lemmas.Int.{to_z-of_z}
use Rattle.cube_core.specs.Answer.{IsGreatest, values_held}
use Rattle.cube_core.specs.declared.aggregate.Answer.TheVariants.{Whole}
use Rattle.cube_values.specs.Bag.{Bag}
use Rattle.cube_values.proofs.HeldLaws.{values_held-some, IsGreatest-AreHeld}
use Rattle.cube_values.proofs.held.greatest_of.Goals as goal

pub returns-clause-none : goal.returns-clause-none
returns-clause-none c = (
  λ wrong. cc,
  λ none. absurd (values_held-some c.args.held.now c.requires c.in_ok-pair.ensures.item.3.0 none),
)

pub returns-clause-greatest : goal.returns-clause-greatest
returns-clause-greatest c =
    let held : Bag = c.args.held.now in
    let pair : ℤ × ℕ = c.in_ok-pair.pair.now in
    let fits : FitsSigned w64 pair.0 = search rules in
    rw (to_z-of_z w64 pair.0 fits) (subst (λ (e : ℤ × ℕ). IsGreatest (values_held held) (Whole e.0))
    (sym (c.in_ok-pair.ensures.item.3.1 pair)) (IsGreatest-AreHeld held pair c.requires c.in_ok-pair.ensures.item.3.0))
