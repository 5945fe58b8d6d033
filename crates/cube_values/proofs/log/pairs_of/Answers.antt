use Rattle.std.proofs.Common.{ℤ, List, ◌≡◌, ◌++◌, ◌∷◌, ◌∙◌, [], pos, get_or, rules}
use Rattle.std.proofs.lemmas.Int.{to_z-of_z}
use Rattle.cube_values.proofs.NarrowLaws.{once_each-more, once_each-all}
use Rattle.cube_values.proofs.log.pairs_of.Goals as goal

pub loop-number-preserved : goal.loop-number-preserved
loop-number-preserved c =
    let numbers : List ℤ = c.args.numbers.now in
    let items : c.push.new.self.items ≡ c.loop-number.pairs.items ++ (
      get_or numbers c.loop-number.number-index (pos 0),
      1,
    ) ∷ [] = search (rules, to_z-of_z) in
    let more = once_each-more numbers c.loop-number.number-index (pos 0) c.loop-number-test.true in
    rw (items, c.loop-number.invariant, more)

pub returns : goal.returns
returns c =
    c.loop-number.invariant ∙ once_each-all c.args.numbers.now c.loop-number.number-index c.loop-number-test.false
