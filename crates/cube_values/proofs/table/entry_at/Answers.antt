use Rattle.std.proofs.Common.{ℤ, ℕ, ◌-◌, ◌∷◌, sym, subst, arith, rules, FitsSigned, w64}
use Rattle.std.proofs.lemmas.Int.{to_z-of_z}
use Rattle.cube_values.specs.Bag.{Bag}
use Rattle.cube_values.proofs.StatisticsLaws.{IsWalkedTo, Ascends-IsStrictlySortedBy, IsWalkedTo-start, IsWalkedTo-more}
use Rattle.cube_values.proofs.StatisticsLaws.{IsWalkedTo-found, IsWalkedTo-end}
use Rattle.cube_values.proofs.table.entry_at.Goals as goal

pub loop-number-init : goal.loop-number-init
loop-number-init c =
    let entries : Bag = c.args.counts.now.entries in
    let gives = c.into_iter-number-iterator.ensures.into_iter_gives in (
      tt,
      tt,
      subst (λ (pairs : Bag). IsWalkedTo entries c.args.place pairs c.args.place) (sym gives.0)
          (IsWalkedTo-start entries c.args.place (Ascends-IsStrictlySortedBy entries gives.5) c.requires.first
          c.requires.last),
    )

pub loop-number-preserved : goal.loop-number-preserved
loop-number-preserved c =
    let entry : ℤ × ℕ = (c.in-Some.number.now, c.in-Some.count.now) in
    let walked : IsWalkedTo c.args.counts.now.entries c.args.place (entry ∷ c.next.new.self) c.loop-number.left =
    rw c.in-Some.ensures.steps at c.loop-number.invariant.2 in (
      tt,
      tt,
      IsWalkedTo-more c.args.counts.now.entries c.args.place entry c.next.new.self c.loop-number.left
          (c.loop-number.left - entry.1) walked (omega arith) (omega arith),
    )

pub returns-then-left-count : goal.returns-then-left-count
returns-then-left-count c =
    let entry : ℤ × ℕ = (c.in-Some.number.now, c.in-Some.count.now) in
    let walked : IsWalkedTo c.args.counts.now.entries c.args.place (entry ∷ c.next.new.self) c.loop-number.left =
    rw c.in-Some.ensures.steps at c.loop-number.invariant.2 in
    let fits : FitsSigned w64 c.in-Some.number.now = search rules in
    rw (to_z-of_z w64 c.in-Some.number.now fits) (IsWalkedTo-found c.args.counts.now.entries c.args.place entry
    c.next.new.self c.loop-number.left walked c.if-left-count.true)

pub returns : goal.returns
returns c =
    let entries : Bag = c.args.counts.now.entries in
    absurd (IsWalkedTo-end entries c.args.place c.loop-number.left
    (subst (λ (pairs : Bag). IsWalkedTo entries c.args.place pairs c.loop-number.left) c.in-None.ensures.steps.0
    c.loop-number.invariant.2))
