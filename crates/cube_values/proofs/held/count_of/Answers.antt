use Rattle.std.proofs.Common.{◌≡◌, ◌≤◌, ◌+◌, ◌^◌, None, arith, rules, ap, get_or, pos}
use Rattle.std.proofs.lemmas.List.{drop_all}
use Rattle.cube_values.specs.Bag.{Bag, size_of}
use Rattle.cube_values.proofs.BagLaws.{weight_of-drop_more}
use Rattle.cube_values.proofs.HeldLaws.{length-values_held}
use Rattle.cube_values.proofs.held.count_of.Goals as goal

pub returns-in_err-count : goal.returns-in_err-count
returns-in_err-count c =
    let held : Bag = c.args.held.now in
    let over : 2 ^ 64 ≤ c.loop-pair.count + (get_or held c.loop-pair.pair-index (pos 0, 0)).1 = search rules in
    let none : c.from_residual.result ≡ None = search rules in
    rw none (omega (
      arith,
      over,
      c.loop-pair.invariant,
      weight_of-drop_more (λ _. 1) held c.loop-pair.pair-index (pos 0, 0) c.loop-pair-test.true,
      length-values_held held,
    ))

pub returns : goal.returns
returns c = omega (
  arith,
  c.loop-pair.invariant,
  ap size_of (drop_all c.loop-pair.pair-index c.args.held.now c.loop-pair-test.false),
  length-values_held c.args.held.now,
)
