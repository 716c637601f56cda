use Rattle.std.proofs.Common.{◌≡◌, ◌++◌, ◌∷◌, [], length, List, ap, ◌∙◌}
use Rattle.clu_types.specs.declared.term.Term.{Term}
use Rattle.clu_types.proofs.Numbered.{added_numbered, added_found}
use Rattle.clu_types.proofs.interned.Interned.add.Goals as goal

module _ (c : goal.After-push_reserved) where
  long : c.len-number.result ≡ length c.self.inside.list.items
  long = c.len-number.ensures ∙ c.self.inside.list.ok.0

  behind : c.push_reserved.new.self.items ≡ c.self.inside.list.items ++ c.in_ok-copied.copied ∷ []
  behind = c.push_reserved.ensures.items ∙ ap (λ (xs : List Term). xs ++ c.in_ok-copied.copied ∷ []) c.reserve.ensures.items

pub invariant_of-self-2 : goal.invariant_of-self-2
invariant_of-self-2 c =
    added_numbered c.self.inside.list.items _ c.args.term c.in_ok-copied.copied c.len-number.result (long c) c.in_ok-copied.ensures (behind c)
    c.self.inside.numbers _ c.in_ok-insert.ensures.updates (rw c.self.view_is c.requires) c.self.invariant

pub returns-clause-found : goal.returns-clause-found
returns-clause-found c =
    added_found c.self.inside.list.items _ c.args.term c.in_ok-copied.copied c.len-number.result (long c) c.in_ok-copied.ensures (behind c)
