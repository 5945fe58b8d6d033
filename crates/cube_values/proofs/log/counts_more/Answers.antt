use Rattle.std.proofs.Common.{◌≡◌, ◌*◌, ℕ, pos, get_or, arith, rules, ap, sym, ◌∙◌, FitsSigned, w64, to_z, of_z}
use Rattle.std.specs.Prelude.{ℤ}
use Rattle.std.specs.Ordering.{int_eq}
use Rattle.std.proofs.lemmas.Bool.{false_from_ne_true}
use Rattle.std.proofs.lemmas.Int.{to_z-of_z}
use Rattle.std.proofs.lemmas.List.{drop_all}
use Rattle.cube_values.specs.Bag.{Bag, one_at, held_of}
use Rattle.cube_values.proofs.BagLaws.{weight_of-drop_more, int_eq-same, one_at-refl, one_at-distinct}
use Rattle.cube_values.proofs.log.counts_more.Goals.{then-pair-value+else-pair-left, else-pair-value}
use Rattle.cube_values.proofs.log.counts_more.Goals as goal

pub loop-pair-preserved : goal.loop-pair-preserved
loop-pair-preserved c =
    let value : ℤ = to_z w64 (of_z w64 c.args.value) in
    let is : value ≡ c.args.value = to_z-of_z w64 c.args.value c.ranges.value in
    let pair : ℤ × ℕ = get_or c.args.pairs.now c.loop-pair.pair-index (pos 0, 0) in
    let here = weight_of-drop_more (one_at value) c.args.pairs.now c.loop-pair.pair-index (pos 0, 0)
    c.loop-pair-test.true in
    elim c.if-pair-value.branch [
      | then-pair-value+else-pair-left w ↦
          let same : pair.0 ≡ c.args.value = search rules in
          omega (
            arith,
            c.loop-pair.invariant,
            here,
            w.left-is,
            w.if-pair-left.false,
            ap (λ x. one_at value x * pair.1) (same ∙ sym is),
            ap (λ n. n * pair.1) (one_at-refl value),
          )
      | else-pair-value w ↦
          omega (
            arith,
            c.loop-pair.invariant,
            here,
            w.left-is,
            ap (λ n. n * pair.1) (one_at-distinct value pair.0 (false_from_ne_true (int_eq value pair.0)
                (λ t. w.if-pair-value.false (ap (of_z w64) (sym (int_eq-same value pair.0 t) ∙ is))))),
          )
    ]

pub returns : goal.returns
returns c =
    let fits : FitsSigned w64 c.args.value = c.ranges.value in
    let counted = simp to_z-of_z at c.loop-pair.invariant in
    let none = ap (λ (bag : Bag). held_of bag c.args.value)
    (drop_all c.loop-pair.pair-index c.args.pairs.now c.loop-pair-test.false) in
    record { more = tt; other = omega (arith, counted, none) }
