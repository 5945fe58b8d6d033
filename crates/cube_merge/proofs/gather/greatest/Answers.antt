use Rattle.std.proofs.Common.{rules, FitsSigned, arith}
use Rattle.std.specs.Int.{w128}
use Rattle.std.proofs.lemmas.Int.{ints, to_z-of_z}
use Rattle.cube_merge.proofs.GatherLaws.{JoinsAnswer-Max-none, JoinsAnswer-Max-one, JoinsAnswer-Max-stays}
use Rattle.cube_merge.proofs.GatherLaws.{JoinsAnswer-Max-new}
use Rattle.cube_merge.proofs.gather.greatest.Goals as goal

pub returns-in_default : goal.returns-in_default
returns-in_default c = JoinsAnswer-Max-none c.args.made c.args.answer.now (search rules)

pub returns-in_default-number_in : goal.returns-in_default-number_in
returns-in_default-number_in c =
    let fits : FitsSigned w128 c.in-Some.number = search rules in
    rw (to_z-of_z w128 c.in-Some.number fits)
    (JoinsAnswer-Max-one c.args.made c.args.answer.now c.in-Some.number (search rules) (search rules))

pub returns-then-number-best : goal.returns-then-number-best
returns-then-number-best c =
    let fits : FitsSigned w128 c.in-Some.number = search rules in
    let fits_best : FitsSigned w128 c.in-Some-number_in.best = search rules in
    let test = simp (
      to_z-of_z w128 c.in-Some.number fits,
      to_z-of_z w128 c.in-Some-number_in.best fits_best,
    ) at c.if-number-best.true in
    rw (to_z-of_z w128 c.in-Some-number_in.best fits_best)
    (JoinsAnswer-Max-stays c.args.made c.args.answer.now c.in-Some-number_in.best c.in-Some.number (search rules)
    (search rules) (omega (arith, ints, test)))

pub returns : goal.returns
returns c =
    let fits : FitsSigned w128 c.in-Some.number = search rules in
    let fits_best : FitsSigned w128 c.in-Some-number_in.best = search rules in
    let test = simp (
      to_z-of_z w128 c.in-Some.number fits,
      to_z-of_z w128 c.in-Some-number_in.best fits_best,
    ) at c.if-number-best.false in
    rw (to_z-of_z w128 c.in-Some.number fits)
    (JoinsAnswer-Max-new c.args.made c.args.answer.now c.in-Some-number_in.best c.in-Some.number (search rules)
    (search rules) (omega (arith, ints, test)))
