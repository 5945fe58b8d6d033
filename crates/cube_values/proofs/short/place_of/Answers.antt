use Rattle.std.proofs.Common.{ℤ, ℕ, ◌≡◌, false, rules, tests}
use Rattle.std.specs.Ordering.{int_eq}
use Rattle.std.proofs.lemmas.Iterator.{YieldsList-from_slice, IsFirst-from_position}
use Rattle.cube_values.proofs.PlaceLaws.{IsFirst, IsFirst-absent, IsFirst-within, IsFirst-found}
use Rattle.cube_values.proofs.short.place_of.Goals as goal

pub returns : goal.returns
returns c =
    let Yes : ℤ × ℕ → Type 0 = λ e. e.0 ≡ c.args.value in
    let No : ℤ × ℕ → Type 0 = λ e. int_eq c.args.value e.0 ≡ false in
    let first : IsFirst Yes No c.args.pairs.now c.position.result =
    IsFirst-from_position _ _ c.position.result Yes No c.position.ensures.ran
    (YieldsList-from_slice c.args.pairs.now cc) (λ x q k. search (rules, tests)) (λ x q k. search (rules, tests)) in
    record {
      absent = IsFirst-absent Yes No c.args.pairs.now c.position.result first;
      within = IsFirst-within Yes No c.args.pairs.now c.position.result first;
      found = IsFirst-found Yes No c.args.pairs.now c.position.result first;
    }
