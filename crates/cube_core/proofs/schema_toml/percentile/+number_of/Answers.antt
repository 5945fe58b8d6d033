use Rattle.std.proofs.Common.{rules, arith, ◌≡◌, ◌≢◌, ◌∙◌, ◌++◌, ◌∷◌, ◌≤◌, ◌/◌, [], ℕ, List, suc, ap, sym, length, length-append}
use Rattle.std.proofs.lemmas.Bool.Decides.{nat_tests}
use Rattle.cube_core.proofs.LevelLaws.{level_text-some, level_text-last, level_text-first, level_text-front}
use Rattle.cube_core.proofs.schema_toml.percentile.+number_of.Goals as goal

pub returns-in_err-last-clause-number : goal.returns-in_err-last-clause-number
returns-in_err-last-clause-number t c =
    let none : length c.args.text.now ≡ 0 = search rules in
    rw c.from_residual.ensures (λ units places same. omega (arith, level_text-some places units, ap length same, none))

pub returns-in_err-digit-clause-number : goal.returns-in_err-digit-clause-number
returns-in_err-digit-clause-number t c =
    let split : c.args.text.now ≡ c.in_ok-last.front.now ++ c.in_ok-last.last.now ∷ [] = search rules in
    rw c.from_residual-in_err-digit.ensures (λ units places same. c.in_err-digit.ensures {u = tt} units
    (level_text-last places units c.in_ok-last.front.now c.in_ok-last.last.now (same ∙ split)))

pub returns-in_err-digit_of-clause-number : goal.returns-in_err-digit_of-clause-number
returns-in_err-digit_of-clause-number t c =
    let last = c.in_ok-last.last.now in
    let split : c.args.text.now ≡ c.in_ok-last.front.now ++ last ∷ [] = search rules in
    rw c.from_residual-in_err-digit_of.ensures (λ units places same. c.in_err-digit_of.ensures {u = tt} (units / 10)
    (level_text-first places units c.in-Some.first last
    (same ∙ split ∙ ap (λ (front : List ℕ). front ++ last ∷ []) (sym c.in-Some.ensures))))

pub number_of-requires : goal.number_of-requires
number_of-requires t c =
    let split : c.args.text.now ≡ c.in_ok-last.front.now ++ c.in_ok-last.last.now ∷ [] = search rules in
    omega (
      arith,
      ap length split,
      length-append c.in_ok-last.front.now (c.in_ok-last.last.now ∷ []),
      c.requires,
    )

pub returns-in_err-units-clause-number : goal.returns-in_err-units-clause-number
returns-in_err-units-clause-number t c =
    let front = c.in_ok-last.front.now in
    let last = c.in_ok-last.last.now in
    let split : c.args.text.now ≡ front ++ last ∷ [] = search rules in
    let some : 1 ≤ length front = grind (arith, nat_tests) in
    let apart : (byte : ℕ) → byte ∷ 46 ∷ [] ≢ front = search rules in
    rw c.from_residual-in_err-units.ensures (λ units places same.
    let level = level_text-front places units front last (same ∙ split) some apart in
    (c.in_err-units.ensures {u = tt}).number (units / 10) (suc level.0) level.1)
