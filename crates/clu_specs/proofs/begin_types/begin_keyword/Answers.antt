use Rattle.clu_specs.proofs.begin_types.begin_keyword.Goals as goal

pub intern-requires : goal.intern-requires
intern-requires c = c.simple_term.ensures.parts _
