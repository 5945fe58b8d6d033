use Rattle.std.proofs.Common.{◌≡◌, ◌<◌, ◌+◌, ◌++◌, ◌∷◌, [], ◌∙◌, ap, rules, arith, get_or, length}
use Rattle.cube_lines.proofs.TextLaws.{escaped-none}
use Rattle.cube_lines.proofs.ParseLaws.{inner-plain, inner-quote}
use Rattle.cube_lines.proofs.parse.unquote.Goals as goal
use Rattle.cube_lines.proofs.parse.unquote.Goals.{then-byte-eq34+else-at-text+else-text-at-ne34, else-byte-eq34}

pub loop-at-init : goal.loop-at-init
loop-at-init c = record { inside = c.requires.some; inner = rw (c.requires.empty, escaped-none) (search rules) }

pub loop-at-preserved : goal.loop-at-preserved
loop-at-preserved c =
    let before = c.loop-at.invariant in
    let text = c.args.text.now in
    let at = c.loop-at.at in
    let pushed : c.push.new.self.items ≡ c.loop-at.field.items ++ get_or text at 0 ∷ [] = search rules in
    elim c.if-byte-eq34.branch [
      | then-byte-eq34+else-at-text+else-text-at-ne34 w ↦
          let inside : at + 1 < length text = omega (arith, c.loop-at-test.true, w.if-at-text.false) in
          let quote : c.push.new.self.items ≡ c.loop-at.field.items ++ 34 ∷ [] =
          pushed ∙ ap (λ b. c.loop-at.field.items ++ b ∷ []) w.if-byte-eq34.true in
          rw w.at-is record {
            inside = omega (arith, inside);
            inner = inner-quote text c.loop-at.field.items c.push.new.self.items at inside w.if-byte-eq34.true
                w.if-text-at-ne34.false quote before.inner;
          }
      | else-byte-eq34 w ↦
          rw w.at-is record {
            inside = omega (arith, c.loop-at-test.true);
            inner = inner-plain text c.loop-at.field.items c.push.new.self.items at
                (get_or text at 0) c.loop-at-test.true (search rules) w.if-byte-eq34.false pushed before.inner;
          }
    ]
