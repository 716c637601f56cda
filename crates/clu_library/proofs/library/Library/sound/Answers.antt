use Rattle.clu_library.proofs.library.Library.sound.Goals as goal

pub returns : goal.returns
returns c = rw (← c.self.view_is) c.self.invariant
