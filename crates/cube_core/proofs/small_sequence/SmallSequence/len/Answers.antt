use Rattle.cube_core.proofs.small_sequence.SmallSequence.len.Goals as goal

pub returns : goal.returns
returns g c = rw (← c.self.view_is) c.len.ensures.value
