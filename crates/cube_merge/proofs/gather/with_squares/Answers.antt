use Rattle.std.proofs.Common.{◌≡◌, ◌+◌, rules}
use Rattle.cube_merge.proofs.SquaresLaws.{JoinsAnswer-Squares-more, JoinsAnswer-Squares-none, JoinsAnswer-Squares-one}
use Rattle.cube_merge.proofs.gather.with_squares.Goals as goal

pub returns-in_default-clause-some : goal.returns-in_default-clause-some
returns-in_default-clause-some c = JoinsAnswer-Squares-none c.args.made c.args.answer.now (search rules)

pub returns-in_default-squares_in-clause-some : goal.returns-in_default-squares_in-clause-some
returns-in_default-squares_in-clause-some c =
    JoinsAnswer-Squares-one c.args.made c.args.answer.now c.in-Some.more (search rules) (search rules)

pub returns-clause-some : goal.returns-clause-some
returns-clause-some c =
    let sum_is : c.in_ok-sum.sum ≡ c.in-Some-squares_in.squares + c.in-Some.more = search rules in
    rw sum_is
    (JoinsAnswer-Squares-more c.args.made c.args.answer.now c.in-Some-squares_in.squares c.in-Some.more
    (search rules) (search rules))
