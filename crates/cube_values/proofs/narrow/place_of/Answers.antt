use Rattle.std.proofs.Common.{ℤ, ◌≡◌, false, rules, tests}
use Rattle.std.specs.Ordering.{int_eq}
use Rattle.std.proofs.lemmas.Iterator.{YieldsList-from_slice, IsFirst-from_position}
use Rattle.cube_values.proofs.PlaceLaws.{IsFirst, IsFirst-absent, IsFirst-within, IsFirst-found}
use Rattle.cube_values.proofs.narrow.place_of.Goals as goal

pub returns : goal.returns
returns c =
    let Yes : ℤ → Type 0 = λ x. x ≡ c.args.value in
    let No : ℤ → Type 0 = λ x. int_eq c.args.value x ≡ false in
    let first : IsFirst Yes No c.args.numbers.now c.position.result =
    IsFirst-from_position _ _ c.position.result Yes No c.position.ensures.ran
    (YieldsList-from_slice c.args.numbers.now cc) (λ x q k. search (rules, tests)) (λ x q k. search (rules, tests)) in
    record {
      absent = IsFirst-absent Yes No c.args.numbers.now c.position.result first;
      within = IsFirst-within Yes No c.args.numbers.now c.position.result first;
      found = IsFirst-found Yes No c.args.numbers.now c.position.result first;
    }
