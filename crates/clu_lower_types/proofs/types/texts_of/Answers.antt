use Rattle.std.proofs.Common.{◌∙◌, ap, sym, map}
use Rattle.std.proofs.lemmas.List.{take_all}
use Rattle.clu_types.specs.Arena.{type_at, types_of}
use Rattle.clu_types.specs.declared.term.TypeId.{TypeId}
use Rattle.clu_specs.specs.Texts.{type_text}
use Rattle.clu_lower_types.proofs.Listed.{texts_each}
use Rattle.clu_lower_types.proofs.types.texts_of.Goals as goal

pub returns : goal.returns
returns c =
    c.loop-of.invariant
    ∙ ap (map (λ (of : TypeId). type_text (type_at (types_of c.args.types.now) of))) (take_all c.loop-of.of-index c.args.listed.now c.loop-of-test.false)
    ∙ sym (texts_each (types_of c.args.types.now) c.args.listed.now)
