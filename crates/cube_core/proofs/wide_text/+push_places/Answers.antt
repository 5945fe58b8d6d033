use Rattle.std.proofs.Common.{◌≡◌, suc, ◌+◌, ◌-◌, ◌/◌, ◌%◌, [], ◌∷◌, ◌++◌, sym, ◌∙◌, ap, arith, rules}
use Rattle.std.proofs.lemmas.List.{append-nil}
use Rattle.std.proofs.lemmas.Result.{on_ok_weaker}
use Rattle.cube_core.specs.Wide.{last_digits}
use Rattle.cube_core.proofs.LongDecimalLaws.{last_digits_none, last_digits_step, joined_pieces}
use Rattle.cube_core.proofs.wide_text.+push_places.Goals as goal

pub returns-then-places-eq0 : goal.returns-then-places-eq0
returns-then-places-eq0 t c =
    let old = c.args.text.now.items in
    sym (
    ap (λ k. old ++ last_digits k c.args.number) c.if-places-eq0.true
    ∙ ap (λ digits. old ++ digits) (last_digits_none c.args.number)
    ∙ append-nil old
    )

pub returns : goal.returns
returns t c =
    let old = c.args.text.now.items in
    let n = c.args.number in
    let places = c.args.places in
    let first : c.push_places.new.text.items ≡ old ++ last_digits (places - 1) (n / 10) = search rules in
    let more : places ≡ suc (places - 1) = omega (arith, c.if-places-eq0.false) in
    on_ok_weaker c.push_digit.result
    (λ end. joined_pieces old (last_digits (places - 1) (n / 10)) ((48 + n % 10) ∷ []) (last_digits places n) _ _
    first end (sym (ap (λ k. last_digits k n) more ∙ last_digits_step (places - 1) n)))
    c.push_digit.ensures
