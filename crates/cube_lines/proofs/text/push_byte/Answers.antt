use Rattle.std.proofs.Common.{rules}
use Rattle.cube_lines.proofs.TextLaws.{escaped-quote, escaped-plain}
use Rattle.cube_lines.proofs.text.push_byte.Goals as goal

pub returns-then-byte-eq34 : goal.returns-then-byte-eq34
returns-then-byte-eq34 c = rw (c.if-byte-eq34.true, escaped-quote) (search rules)

pub returns : goal.returns
returns c = rw (escaped-plain c.args.byte c.if-byte-eq34.false) c.in_ok-push.ensures.items
