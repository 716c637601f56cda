use Rattle.clu_specs.proofs.Growing.{fields_pushed}
use Rattle.clu_specs.proofs.resume_types.end_field.Goals as goal

pub intern-requires : goal.intern-requires
intern-requires c = c.selecting_term.ensures.parts _ (rw c.in_ok-made.ensures (fields_pushed _ _ _ c.requires.fields c.requires.id))
