use Rattle.std.proofs.Common.{ℤ, ℕ, ◌+◌, ◌-◌, sym, subst, arith, rules, get_or, drop, pos, FitsSigned, w64}
use Rattle.std.proofs.lemmas.Int.{to_z-of_z}
use Rattle.cube_core.specs.Answer.{values_held}
use Rattle.cube_values.specs.Bag.{Bag}
use Rattle.cube_values.proofs.BagLaws.{drop-get_or}
use Rattle.cube_values.proofs.HeldLaws.{Ascends-AreHeld, StandsAt-IsAtPlace, length-values_held, times_among-values_held}
use Rattle.cube_values.proofs.StatisticsLaws.{IsWalkedTo, IsWalkedTo-start, IsWalkedTo-more, IsWalkedTo-found}
use Rattle.cube_values.proofs.held.value_at.Goals as goal

pub loop-pair-init : goal.loop-pair-init
loop-pair-init c =
    let held : Bag = c.args.held.now in
    IsWalkedTo-start held c.args.place (Ascends-AreHeld (values_held held) held c.requires.ascending) c.requires.first
    (omega (arith, c.requires.last, length-values_held held))

pub returns-then-left-pair : goal.returns-then-left-pair
returns-then-left-pair c =
    let held : Bag = c.args.held.now in
    let i : ℕ = c.loop-pair.pair-index in
    let pair : ℤ × ℕ = get_or held i (pos 0, 0) in
    let fits : FitsSigned w64 pair.0 = search rules in
    let walked = subst (λ (pairs : Bag). IsWalkedTo held c.args.place pairs c.loop-pair.left)
    (drop-get_or held i (pos 0, 0) c.loop-pair-test.true) c.loop-pair.invariant in
    rw (to_z-of_z w64 pair.0 fits) (StandsAt-IsAtPlace (values_held held) held c.args.place pair.0
    (λ x. sym (times_among-values_held held x))
    (IsWalkedTo-found held c.args.place pair (drop (i + 1) held) c.loop-pair.left walked c.if-left-pair.true))

pub loop-pair-preserved : goal.loop-pair-preserved
loop-pair-preserved c =
    let held : Bag = c.args.held.now in
    let i : ℕ = c.loop-pair.pair-index in
    let pair : ℤ × ℕ = get_or held i (pos 0, 0) in
    let walked = subst (λ (pairs : Bag). IsWalkedTo held c.args.place pairs c.loop-pair.left)
    (drop-get_or held i (pos 0, 0) c.loop-pair-test.true) c.loop-pair.invariant in
    IsWalkedTo-more held c.args.place pair (drop (i + 1) held) c.loop-pair.left (c.loop-pair.left - pair.1) walked
    c.if-left-pair.false (omega (arith, c.if-left-pair.false))
