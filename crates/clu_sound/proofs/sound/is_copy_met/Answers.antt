use Rattle.clu_sound.proofs.sound.is_copy_met.Goals as goal

pub is_form_met-requires : goal.is_form_met-requires
is_form_met-requires c = rw c.in_ok-types.ensures c.requires

pub returns : goal.returns
returns c = rw (← c.in_ok-types.ensures) c.is_form_met.ensures
