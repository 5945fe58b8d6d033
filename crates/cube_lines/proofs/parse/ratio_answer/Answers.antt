use Rattle.std.proofs.Common.{◌≡◌, ◌++◌, ◌∷◌, ◌∙◌, ap, sym, rules, codes, decimal, false, FitsSigned}
use Rattle.std.specs.Fmt.{signed_decimal}
use Rattle.std.specs.Int.{w128}
use Rattle.std.proofs.lemmas.Int.{to_z-of_z}
use Rattle.csv.specs.Writing.{default_writer, needs_quotes}
use Rattle.cube_core.specs.Text.{fraction_text}
use Rattle.cube_lines.proofs.ParseLaws.{parted-begins, plain-ends}
use Rattle.cube_lines.proofs.TextLaws.{plain-fraction}
use Rattle.cube_lines.proofs.parse.ratio_answer.Goals as goal

pub returns : goal.returns
returns c =
    let text = c.args.text.now in
    let p = c.in_ok-p.p in
    let q = c.in_ok-q.q in
    let units = fraction_text c.args.digits c.in_ok-p-2.p c.in_ok-p-2.q in
    let end = c.in_ok-q.end.now in
    let one : text ≡ signed_decimal p ++ c.in_ok-p.slash.now = search rules in
    let two : c.in_ok-p.slash.now ≡ 47 ∷ c.in_ok-after.field-0.now = search rules in
    let three : c.in_ok-after.field-0.now ≡ decimal q ++ end = search rules in
    let begins = parted-begins 47 text (signed_decimal p) c.in_ok-p.slash.now c.in_ok-after.field-0.now
    (decimal q) end one two three in
    let is : signed_decimal p ++ codes "/" ++ decimal q ≡ units = search (rules, to_z-of_z) in
    let plain : needs_quotes default_writer units ≡ false =
    ap (needs_quotes default_writer) (sym is) ∙ plain-fraction p q in
    let fits_units : FitsSigned w128 c.in_ok-p-2.p = search rules in
    rw (to_z-of_z w128 c.in_ok-p-2.p fits_units) (plain-ends text units end c.in_ok-after-2.field-0.now plain
    (begins ∙ ap (λ t. t ++ end) is) (search rules))
