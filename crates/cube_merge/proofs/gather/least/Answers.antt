use Rattle.std.proofs.Common.{rules, FitsSigned, arith}
use Rattle.std.specs.Int.{w128}
use Rattle.std.proofs.lemmas.Int.{ints, to_z-of_z}
use Rattle.cube_merge.proofs.GatherLaws.{JoinsAnswer-Min-none, JoinsAnswer-Min-one, JoinsAnswer-Min-stays}
use Rattle.cube_merge.proofs.GatherLaws.{JoinsAnswer-Min-new}
use Rattle.cube_merge.proofs.gather.least.Goals as goal

pub returns-in_default : goal.returns-in_default
returns-in_default c = JoinsAnswer-Min-none c.args.made c.args.answer.now (search rules)

pub returns-in_default-number_in : goal.returns-in_default-number_in
returns-in_default-number_in c =
    let fits : FitsSigned w128 c.in-Some.number = search rules in
    rw (to_z-of_z w128 c.in-Some.number fits)
    (JoinsAnswer-Min-one c.args.made c.args.answer.now c.in-Some.number (search rules) (search rules))

pub returns-then-best-number : goal.returns-then-best-number
returns-then-best-number c =
    let fits : FitsSigned w128 c.in-Some.number = search rules in
    let fits_best : FitsSigned w128 c.in-Some-number_in.best = search rules in
    let test = simp (
      to_z-of_z w128 c.in-Some.number fits,
      to_z-of_z w128 c.in-Some-number_in.best fits_best,
    ) at c.if-best-number.true in
    rw (to_z-of_z w128 c.in-Some-number_in.best fits_best)
    (JoinsAnswer-Min-stays c.args.made c.args.answer.now c.in-Some-number_in.best c.in-Some.number (search rules)
    (search rules) (omega (arith, ints, test)))

pub returns : goal.returns
returns c =
    let fits : FitsSigned w128 c.in-Some.number = search rules in
    let fits_best : FitsSigned w128 c.in-Some-number_in.best = search rules in
    let test = simp (
      to_z-of_z w128 c.in-Some.number fits,
      to_z-of_z w128 c.in-Some-number_in.best fits_best,
    ) at c.if-best-number.false in
    rw (to_z-of_z w128 c.in-Some.number fits)
    (JoinsAnswer-Min-new c.args.made c.args.answer.now c.in-Some-number_in.best c.in-Some.number (search rules)
    (search rules) (omega (arith, ints, test)))
