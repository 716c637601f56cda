use Rattle.clu_types.specs.declared.term.TypeId.{TypeId}
use Rattle.clu_specs.proofs.Writing.{first_shown}
use Rattle.clu_specs.proofs.pieces.push_types.Goals as goal

pub returns-in-len1-up : goal.returns-in-len1-up
returns-in-len1-up c ks =
    let d : TypeId = record { 0 = 0 } in
    rw (first_shown ks c.args.ids.now d c.in-len1-up.len_at_least) (c.push_first_type.ensures ks)
