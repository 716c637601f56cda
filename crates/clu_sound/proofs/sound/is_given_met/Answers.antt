use Rattle.clu_sound.proofs.sound.is_given_met.Goals as goal

pub returns-clause-met : goal.returns-clause-met
returns-clause-met c = rw (← c.as_slice.ensures) c.is_routine_met.ensures.met
