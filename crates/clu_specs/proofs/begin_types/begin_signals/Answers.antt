use Rattle.clu_specs.proofs.begin_types.begin_signals.Goals as goal

pub intern-requires : goal.intern-requires
intern-requires c = c.routine_term.ensures.parts _ (c.requires.args, c.requires.results, rw (c.from_vec-made.ensures, c.new.ensures.items) tt)
