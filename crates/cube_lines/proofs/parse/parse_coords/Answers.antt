use Rattle.cube_lines.proofs.parse.parse_coords.Goals as goal

pub loop-init : goal.loop-init
loop-init c = rw c.clear.ensures.items
