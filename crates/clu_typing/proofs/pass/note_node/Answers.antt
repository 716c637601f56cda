use Rattle.std.proofs.Common.{◌∙◌, List, [], ◌∷◌, ◌++◌, vec_items, ap}
use Rattle.clu_typing.specs.declared.raising.RaisesId.{RaisesId}
use Rattle.clu_typing.proofs.pass.note_node.Goals as goal

pub returns-clause-next : goal.returns-clause-next
returns-clause-next c = λ items.
    let stay = c.in_ok-raised.ensures.kept in (
      c.in_ok-applied.applied,
      c.note_known.new.facts,
      c.in_ok-applied.ensures.noted items,
      record {
        set = c.in_ok-raised.raised;
        raises = c.in_ok-push.ensures.items ∙ ap (λ (sets : List RaisesId). sets ++ c.in_ok-raised.raised ∷ []) (ap vec_items stay.raises);
        row = c.in_ok-raised.ensures.row;
        types = stay.types;
        invocations = stay.invocations;
        invoked = stay.invoked;
        founds = stay.founds;
        asked = stay.asked;
        wished = stay.wished;
        given = stay.given;
        shown = stay.shown;
      },
    )
