use Rattle.cube_cells.proofs.Tallies.FactLaws.{IsTallyOf-cons, IsTallyOf-tail, IsTallyOf-SameTally}
use Rattle.cube_cells.proofs.Tallies.FactLaws.{IsTallyOf-permutation}
use Rattle.cube_cells.proofs.Tallies.FactLaws.{holds_fact-IsTallyOf}
use Rattle.cube_cells.proofs.laws.tallies_follow_facts.Goals as goal

pub returns : goal.returns
returns c = record {
  more = IsTallyOf-cons;
  less = IsTallyOf-tail;
  same = IsTallyOf-SameTally;
  moved = IsTallyOf-permutation;
  held = holds_fact-IsTallyOf;
}
