use Rattle.cube_core.proofs.wide_text.+push_short.Given as goal

abbrev pub decreases-push_short : goal.decreases-push_short
decreases-push_short l = l.number
