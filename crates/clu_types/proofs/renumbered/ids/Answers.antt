use Rattle.std.proofs.Common.{List, [], ◌∷◌, ◌++◌, ◌∙◌, ap, ap₂, map, sym, take}
use Rattle.std.proofs.lemmas.List.{map-append, take_more}
use Rattle.clu_types.specs.Numbering.{numbers_of}
use Rattle.clu_types.specs.Renumbered.{number_in}
use Rattle.clu_types.specs.declared.term.TypeId.{TypeId}
use Rattle.clu_types.proofs.renumbered.ids.Goals as goal

pub loop-id-preserved : goal.loop-id-preserved
loop-id-preserved c =
    c.in_ok-push.ensures.items
    ∙ ap₂ (λ (made : List TypeId) (id : TypeId). made ++ id ∷ []) c.loop-id.invariant c.of.ensures
    ∙ sym (map-append (number_in (numbers_of c.args.table.now)) (take c.loop-id.id-index c.args.old.now) _)
    ∙ ap (map (number_in (numbers_of c.args.table.now))) (sym (take_more c.args.old.now c.loop-id.id-index _ c.loop-id-test.true))
