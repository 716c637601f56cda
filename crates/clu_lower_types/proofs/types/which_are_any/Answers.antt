use Rattle.std.proofs.Common.{◌∙◌, ap, sym, map}
use Rattle.std.proofs.lemmas.List.{take_all}
use Rattle.clu_types.specs.Arena.{type_at, types_of}
use Rattle.clu_types.specs.declared.term.TypeId.{TypeId}
use Rattle.clu_lower_types.specs.Types.{is_any}
use Rattle.clu_lower_types.proofs.Listed.{any_each}
use Rattle.clu_lower_types.proofs.types.which_are_any.Goals as goal

pub returns : goal.returns
returns c =
    c.loop-of.invariant
    ∙ ap (map (λ (of : TypeId). is_any (type_at (types_of c.args.types.now) of))) (take_all c.loop-of.of-index c.args.listed.now c.loop-of-test.false)
    ∙ sym (any_each (types_of c.args.types.now) c.args.listed.now)
