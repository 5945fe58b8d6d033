use Rattle.std.proofs.Common.{◌∙◌, sym, arith, ◌++◌, take, drop, ap}
use Rattle.std.specs.Fmt.{take_chars}
use Rattle.cube_feed.proofs.PlainFieldLaws.{take_chars-stops, take_chars-begins, take_chars-goes_on, take_chars-all}
use Rattle.cube_feed.proofs.plain.first_chars.Goals as goal
use Rattle.cube_feed.proofs.plain.first_chars.Goals.{then-is_char_start+else-left-eq0, else-is_char_start}

pub returns-then-left-eq0 : goal.returns-then-left-eq0
returns-then-left-eq0 c =
    let text = c.args.text.now in
    let place = c.loop-place.place in
    let begins = sym c.is_char_start.ensures ∙ c.if-is_char_start.true in
    sym (take_chars-stops text place c.loop-place-test.true begins)
    ∙ ap (λ n. take place text ++ take_chars n (drop place text)) (sym c.if-left-eq0.true) ∙ c.loop-place.invariant

pub loop-place-preserved : goal.loop-place-preserved
loop-place-preserved c =
    let text = c.args.text.now in
    let place = c.loop-place.place in
    let test = sym c.is_char_start.ensures in
    elim c.if-is_char_start.branch [
      | then-is_char_start+else-left-eq0 w ↦
          take_chars-begins text place c.loop-place.left c.if-is_char_start.left c.loop-place-test.true
          (test ∙ w.if-is_char_start.true) (omega arith) ∙ c.loop-place.invariant
      | else-is_char_start w ↦
          rw w.left-is (take_chars-goes_on text place c.loop-place.left c.loop-place-test.true
          (test ∙ w.if-is_char_start.false) ∙ c.loop-place.invariant)
    ]

pub returns : goal.returns
returns c =
    take_chars-all c.args.text.now c.loop-place.place c.loop-place.left _ c.loop-place-test.false c.loop-place.invariant
