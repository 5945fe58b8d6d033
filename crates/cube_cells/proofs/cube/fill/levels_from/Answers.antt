use Rattle.std.proofs.Common.{◌≡◌, ◌<◌, ◌+◌, ◌-◌, ℕ, arith, get_or, length, refl, reverse, subst, take}
use Rattle.std.proofs.lemmas.List.{reverse-reverse}
use Rattle.cube_cells.specs.Fill.{IsMadeLevel}
use Rattle.cube_cells.proofs.Filling.FillLaws.{IsMakingLevels, IsMakingLevels-more}
use Rattle.cube_cells.proofs.cube.fill.levels_from.Goals as goal

pub loop-place-preserved : goal.loop-place-preserved
loop-place-preserved g c =
    let sets = c.args.sets.now in
    let now = c.loop-place.levels.items in
    let i : ℕ = c.loop-place.place - 1 in
    let next : c.loop-place.place ≡ i + 1 = omega (arith, c.loop-place-test.true) in
    let inside : i < length sets = omega (arith, c.loop-place-test.true, c.loop-place.auto.place) in
    let making : IsMakingLevels c.args.measures c.args.finest.now (reverse sets) (reverse (take (i + 1) sets)) now =
    subst (λ (n : ℕ). IsMakingLevels c.args.measures c.args.finest.now (reverse sets) (reverse (take n sets)) now)
    next c.loop-place.invariant in
    let is : IsMadeLevel c.args.measures c.args.finest.now now (get_or sets i 0) c.in_ok-level.level =
    rw c.deref.ensures.value at c.in_ok-level.ensures in
    rw c.in_ok-push.ensures.items (IsMakingLevels-more c.args.measures c.args.finest.now (reverse sets) sets now i 0
    c.in_ok-level.level inside making is)

pub returns : goal.returns
returns g c =
    let sets = c.args.sets.now in
    let now = c.loop-place.levels.items in
    let none : c.loop-place.place ≡ 0 = omega (arith, c.loop-place-test.false) in
    let making : IsMakingLevels c.args.measures c.args.finest.now (reverse sets) (reverse (take 0 sets)) now =
    subst (λ (n : ℕ). IsMakingLevels c.args.measures c.args.finest.now (reverse sets) (reverse (take n sets)) now)
    none c.loop-place.invariant in
    rw c.reverse.ensures.items (rw (reverse-reverse now) (making.makes now refl))
