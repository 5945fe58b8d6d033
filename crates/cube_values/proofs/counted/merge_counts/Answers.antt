use Rattle.std.proofs.Common.{◌<◌, ◌∷◌, [], ℕ, arith, rules, FitsSigned, w64}
use Rattle.std.specs.Prelude.{All, ℤ}
use Rattle.std.proofs.lemmas.Int.{to_z-of_z}
use Rattle.std.proofs.lemmas.List.Elements.{All-tail}
use Rattle.cube_values.specs.Values.{bag_of}
use Rattle.cube_values.proofs.BagLaws.{IsMerging, IsMerging-more, IsMerging-room, IsMerging-AddsBag}
use Rattle.cube_values.proofs.counted.merge_counts.Goals as goal

pub add_value-requires-clause-fits : goal.add_value-requires-clause-fits
add_value-requires-clause-fits c =
    let entry : ℤ × ℕ = (c.in-Some.value.now, c.in-Some.count.now) in
    let old = bag_of c.args.values.now in
    let now = bag_of c.loop-value.values in
    let merging : IsMerging old c.args.counts.now.entries (entry ∷ c.next.new.self) now =
    rw c.in-Some.ensures.steps at c.loop-value.invariant.2 in
    omega (arith, c.requires.fits, IsMerging-room old c.args.counts.now.entries c.next.new.self now entry merging)

pub loop-value-preserved : goal.loop-value-preserved
loop-value-preserved c =
    let entry : ℤ × ℕ = (c.in-Some.value.now, c.in-Some.count.now) in
    let old = bag_of c.args.values.now in
    let now = bag_of c.loop-value.values in
    let merging : IsMerging old c.args.counts.now.entries (entry ∷ c.next.new.self) now =
    rw c.in-Some.ensures.steps at c.loop-value.invariant.2 in
    let some : All (λ (e : ℤ × ℕ). 0 < e.1) (entry ∷ c.next.new.self) =
    rw c.in-Some.ensures.steps at c.loop-value.invariant.3 in
    let fits : FitsSigned w64 c.in-Some.value.now = search rules in
    let added = simp to_z-of_z at c.in_ok-add_value.ensures.added in (
      tt,
      tt,
      IsMerging-more old c.args.counts.now.entries c.next.new.self now
          (bag_of c.add_value.new.values) entry merging added,
      All-tail (λ (e : ℤ × ℕ). 0 < e.1) entry c.next.new.self some,
    )

pub returns : goal.returns
returns c =
    let old = bag_of c.args.values.now in
    let now = bag_of c.loop-value.values in
    let merging : IsMerging old c.args.counts.now.entries [] now =
    rw c.in-None.ensures.steps.0 at c.loop-value.invariant.2 in
    IsMerging-AddsBag old c.args.counts.now.entries now merging
