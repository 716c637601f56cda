use Rattle.clu_types.proofs.arena.TypeArena.sound.Goals as goal

pub returns : goal.returns
returns c = rw (← c.self.view_is) c.self.invariant
