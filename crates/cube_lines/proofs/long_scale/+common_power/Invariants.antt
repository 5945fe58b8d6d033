use Rattle.cube_lines.proofs.long_scale.+common_power.Given as goal

abbrev pub decreases-common_power : goal.decreases-common_power
decreases-common_power l = l.digits
