use Rattle.clu_sound.proofs.Judging.{kept_some, kept_none}
use Rattle.clu_sound.proofs.sound.is_kept.Goals as goal

pub returns-in-Some : goal.returns-in-Some
returns-in-Some c = kept_some c.args.own.now c.args.actuals.now c.in-Some.spec.now _ c.in-Some.ensures c.is_instance.result (rw (← c.as_slice.ensures) c.is_instance.ensures)

pub returns-in-None : goal.returns-in-None
returns-in-None c = kept_none c.args.own.now c.args.actuals.now _ c.in-None.ensures
