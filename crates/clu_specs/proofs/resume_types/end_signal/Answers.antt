use Rattle.clu_specs.proofs.Growing.{signals_pushed}
use Rattle.clu_specs.proofs.resume_types.end_signal.Goals as goal

pub intern-requires : goal.intern-requires
intern-requires c = c.routine_term.ensures.parts _ (c.requires.signals.0, c.requires.signals.1, rw c.in_ok-made.ensures (signals_pushed _ _ _ c.requires.signals.2 c.requires.objects))
