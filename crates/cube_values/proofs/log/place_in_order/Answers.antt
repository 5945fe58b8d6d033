use Rattle.std.proofs.Common.{◌∙◌, arith, rules, pos, FitsSigned, w64, of_z, ap}
use Rattle.std.proofs.lemmas.Int.{to_z-of_z}
use Rattle.cube_values.proofs.LogLaws.{held_of-IsCut_front, held_of-IsCut, held_of-IsCut_other, IsCut-IsLastOf}
use Rattle.cube_values.proofs.log.place_in_order.Goals as goal

pub returns-then-past-eq0-clause-absent : goal.returns-then-past-eq0-clause-absent
returns-then-past-eq0-clause-absent c =
    let fits : FitsSigned w64 c.args.value = c.ranges.value in
    let cut = simp to_z-of_z at c.place_past-past.ensures in
    held_of-IsCut_front c.args.pairs.now c.args.value c.place_past-past.result cut (search rules)

pub returns-then-number-value-clause-absent : goal.returns-then-number-value-clause-absent
returns-then-number-value-clause-absent c =
    let fits : FitsSigned w64 c.args.value = c.ranges.value in
    let cut = simp to_z-of_z at c.place_past-past.ensures in
    held_of-IsCut_other c.args.pairs.now c.args.value c.place_past-past.result (pos 0, 0) c.requires cut (search rules)
    (λ same. c.if-number-value.true (ap (of_z w64) same))

pub returns-then-count-eq0-clause-absent : goal.returns-then-count-eq0-clause-absent
returns-then-count-eq0-clause-absent c =
    let fits : FitsSigned w64 c.args.value = c.ranges.value in
    let cut = simp to_z-of_z at c.place_past-past.ensures in
    held_of-IsCut c.args.pairs.now c.args.value c.place_past-past.result (pos 0, 0) c.requires cut (search rules)
    (search rules) ∙ c.if-count-eq0.true

pub returns-clause-found : goal.returns-clause-found
returns-clause-found c =
    let fits : FitsSigned w64 c.args.value = c.ranges.value in
    let cut = simp to_z-of_z at c.place_past-past.ensures in
    IsCut-IsLastOf c.args.pairs.now c.args.value c.place_past-past.result (pos 0, 0) c.requires cut (search rules)
    (search rules) (omega (arith, c.if-count-eq0.false))
