use Rattle.std.proofs.Common.{ℤ, List, ◌-◌, pos, get_or, arith, rules, FitsSigned, w32, of_z, to_z, sym}
use Rattle.std.proofs.Common.{◌∙◌, ap}
use Rattle.std.proofs.lemmas.Int.{to_z-of_z}
use Rattle.cube_values.proofs.OrderedLaws.{place_is_new, place_is_seen}
use Rattle.cube_values.proofs.paid.is_new.Goals as goal

pub returns-then-numbers-place-clause-seen : goal.returns-then-numbers-place-clause-seen
returns-then-numbers-place-clause-seen c =
    let numbers : List ℤ = c.args.numbers.now in
    let before : FitsSigned w32 (get_or numbers (c.args.place - 1) (pos 0)) = search rules in
    let here : FitsSigned w32 (get_or numbers c.args.place (pos 0)) = search rules in
    place_is_seen numbers c.args.place (pos 0) (omega (arith, c.if-place-eq0.false)) c.requires.within
    (sym (to_z-of_z w32 (get_or numbers (c.args.place - 1) (pos 0)) before) ∙ ap (to_z w32) c.if-numbers-place.true
    ∙ to_z-of_z w32 (get_or numbers c.args.place (pos 0)) here)

pub returns-clause-new : goal.returns-clause-new
returns-clause-new c = place_is_new c.args.numbers.now c.args.place (pos 0) c.requires.sorted
    (omega (arith, c.if-place-eq0.false)) c.requires.within (λ same. c.if-numbers-place.false (ap (of_z w32) same))
