use Rattle.std.proofs.Common.{◌≡◌, ◌+◌, ◌-◌, ◌∷◌, ℕ, get_or, drop, add-one, drop-cons, refl, arith}
use Rattle.std.proofs.lemmas.Grind.{common_steps}
use Rattle.std.proofs.lemmas.List.{drop-drop, length-append}
use Rattle.std.proofs.lemmas.List.Sums.{sum_by-cons}
use Rattle.std.proofs.lemmas.Str.{IsAscii-take, IsAscii-drop}
use Rattle.std.proofs.Math.Seq.{drop-append_seam}
use Rattle.cube_core.proofs.ValueLaws.{AddsAll-none, AddsAll-more}
use Rattle.cube_core.proofs.dimension_values.add_fields_in_place.Goals as goal

pub loop-len-init : goal.loop-len-init
loop-len-init c =
    let block = c.args.block.now.items in
    rw (c.in-Ok.ensures.ok, c.len-end.ensures.value) (
      omega (arith, c.requires.whole, length-append block c.args.text.now),
      omega (arith, c.if-remaining_capacity-lens.false, c.remaining_capacity.ensures),
      rw (drop-append_seam block c.args.text.now) c.requires.ascii,
      AddsAll-none block c.args.text.now c.args.spans.now.items c.args.lens.now,
    )

pub loop-len-preserved : goal.loop-len-preserved
loop-len-preserved c =
    let loop = c.loop-len in
    let block = c.try_extend_from_slice.new.self.items in
    let lens = c.args.lens.now in
    let len = get_or lens loop.len-index 0 in
    let rest = drop (loop.len-index + 1) lens in
    let next : drop loop.len-index lens ≡ len ∷ rest =
    rw (drop-cons lens loop.len-index 0 (omega (arith, c.loop-len-test.true)), add-one loop.len-index) refl in
    let ascii = loop.invariant.2 in
    let lies = rw c.as_slice.ensures.value at c.span_of.ensures.lies in
    let value = rw c.as_slice.ensures.value at c.span_of.ensures.value in (
      omega (arith, rw next at loop.invariant.0, sum_by-cons (λ (n : ℕ). n) len rest),
      omega (arith, rw next at loop.invariant.1, c.push.ensures.len),
      rw (drop-drop len loop.end block) at (IsAscii-drop (drop loop.end block) len ascii),
      (λ all.
          let was = loop.invariant.3 all in
          rw c.push.ensures.items
          (AddsAll-more block loop.spans.items c.span_of.result loop.end len rest _ was.0
          (lies (IsAscii-take (drop loop.end block) ((loop.end + len) - loop.end) ascii)) value (rw next at was.1))),
    )

pub overflow_add-end : goal.overflow_add-end
overflow_add-end c = grind (arith, common_steps)

pub push-requires : goal.push-requires
push-requires c = grind (arith, common_steps)

pub span_of-requires : goal.span_of-requires
span_of-requires c = grind (arith, common_steps)

pub returns-clause-added : goal.returns-clause-added
returns-clause-added c = grind (arith, common_steps)
