use Rattle.std.proofs.Common.{ℤ, ℕ, pos, ◌+◌, ◌+ℤ◌, sym, subst, get_or, drop, FitsSigned, to_z, of_z}
use Rattle.std.specs.Int.{w128}
use Rattle.std.proofs.lemmas.Int.{to_z-of_z}
use Rattle.cube_values.specs.Bag.{Bag}
use Rattle.cube_values.proofs.BagLaws.{drop-get_or}
use Rattle.cube_values.proofs.HeldLaws.{IsTotalledTo, IsTotalledTo-fits, IsTotalledTo-more}
use Rattle.cube_values.proofs.held.total_of.Goals as goal

-- the sum with one pair more
abbrev next : goal.After-pair_total-total → ℤ
next c = to_z w128 c.loop-pair.total-bits +ℤ to_z w128 (of_z w128 c.pair_total-total.result)

totalled : (c : goal.After-pair_total-total)
    → IsTotalledTo c.args.held.now (drop (c.loop-pair.pair-index + 1) c.args.held.now) (next c)
totalled c =
    let held : Bag = c.args.held.now in
    let i : ℕ = c.loop-pair.pair-index in
    let total : ℤ = to_z w128 c.loop-pair.total-bits in
    let pair : ℤ × ℕ = get_or held i (pos 0, 0) in
    let part : ℤ = c.pair_total-total.result in
    let fits : FitsSigned w128 part = record { sfits = c.pair_total-total.type_inv } in
    subst (λ (z : ℤ). IsTotalledTo held (drop (i + 1) held) (total +ℤ z)) (sym (to_z-of_z w128 part fits))
    (IsTotalledTo-more held (drop (i + 1) held) pair total part
    (subst (λ (pairs : Bag). IsTotalledTo held pairs total) (drop-get_or held i (pos 0, 0) c.loop-pair-test.true)
    c.loop-pair.invariant) c.pair_total-total.ensures.value c.pair_total-total.ensures.bound)

pub overflow_add-total : goal.overflow_add-total
overflow_add-total c = IsTotalledTo-fits c.args.held.now (drop (c.loop-pair.pair-index + 1) c.args.held.now) (next c)
    (totalled c) c.requires

pub loop-pair-preserved : goal.loop-pair-preserved
loop-pair-preserved c = subst
    (λ (z : ℤ). IsTotalledTo c.args.held.now (drop (c.loop-pair.pair-index + 1) c.args.held.now) z)
    (sym (to_z-of_z w128 (next c) (overflow_add-total c))) (totalled c)
