use Rattle.std.proofs.Common.{◌∙◌, sym, arith}
use Rattle.cube_values.proofs.HeldLaws.{length-values_held, squares_of-values_held}
use Rattle.cube_values.proofs.held.squares_of.Goals as goal

pub pairs_squares-requires : goal.pairs_squares-requires
pairs_squares-requires c = omega (arith, c.requires, length-values_held c.args.held.now)

pub unreachable-requires : goal.unreachable-requires
unreachable-requires c = omega (
  arith,
  c.requires,
  length-values_held c.args.held.now,
  c.pairs_squares.ensures.bound,
  c.in-None.ensures.value,
)

pub returns : goal.returns
returns c = c.in-Some.ensures.value ∙ c.pairs_squares.ensures.value ∙ sym (squares_of-values_held c.args.held.now)
