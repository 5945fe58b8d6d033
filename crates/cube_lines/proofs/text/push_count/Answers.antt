use Rattle.cube_lines.proofs.TextLaws.{plain-decimal}
use Rattle.cube_lines.proofs.text.push_count.Goals as goal

pub push_plain-requires : goal.push_plain-requires
push_plain-requires c =
    rw (c.as_bytes.ensures.value, c.format.ensures.text) (plain-decimal c.args.count)
