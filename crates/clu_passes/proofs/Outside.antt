-- Lists of types as callers see them: what is known of each by the value of its node is so.
use Rattle.std.proofs.Common.{◌≡◌, ◌∙◌, ℕ, true, List, [], ◌∷◌, ◌++◌, Option, Some, None, refl, sym, ap, ap₂, append_assoc}
use Rattle.std.specs.Prelude.{All}
use Rattle.std.specs.Option.{option_and_then, option_map}
use Rattle.std.proofs.lemmas.List.{append-nil}
use Rattle.std.proofs.lemmas.List.Elements.{All-head, All-tail}
use Rattle.std.proofs.lemmas.Option.{none-some, same_Some}
use Rattle.clu_base.specs.declared.constants.Const.{Const}
use Rattle.clu_types.specs.CluType.{type_and}
use Rattle.clu_types.specs.declared.term.Term.{Term}
use Rattle.clu_types.specs.declared.term.TypeId.{TypeId}
use Rattle.clu_types.specs.Arena.{types_of, type_at}
use Rattle.clu_types.specs.Arena.{types_at as kept_at}
use Rattle.clu_tree.specs.declared.node.Node.{Node}
use Rattle.clu_syntax.specs.Kinds.{is_type, kind_at}
use Rattle.clu_syntax.specs.Items.{types_at}
use Rattle.clu_syntax.specs.Nodes.{item_at}
use Rattle.clu_meaning.specs.Resolving.{Place, heading_types}
use Rattle.clu_checking.specs.Headings.{for_callers, types_by}
use Rattle.clu_settle.specs.declared.value.Value.{Value}
use Rattle.clu_settle.specs.Lists.{value_of}
use Rattle.clu_settle.specs.Settled.{AreSettled}
use Rattle.clu_head.specs.Seen.{seen_type}
use Rattle.clu_head.specs.Outside.{type_outside, types_behind}
use Rattle.clu_passes.proofs.Seen.{seen_told}

module _ (nodes : List Node) (place : Place) (types : List Term) (constants : List Const) (values : List Value) (known : AreSettled nodes place.scope types constants values)
    (own : Option TypeId) (home : option_map (type_at (types_of types)) own ≡ place.home) where
  outside_is : (n : ℕ) → type_outside own nodes values n ≡ seen_type own (item_at nodes n).type (value_of values n)
  unfolding type_outside
  outside_is n = refl

  abbrev Are : List TypeId → List TypeId → List ℕ → Type 0
  Are done ids ns = (more : List TypeId) × (ids ≡ done ++ more) × (types_by for_callers (heading_types place (types_at (item_at nodes) ns)) ≡ kept_at (types_of types) more)

  pub types_told : (ns : List ℕ) (done ids : List TypeId) → All (λ n. is_type (kind_at nodes n) ≡ true) ns → types_behind own nodes values done ns ≡ Some ids → Are done ids ns
  types_told [] done ids all e = ([], sym (same_Some done ids e) ∙ sym (append-nil done), refl)
  types_told (n ∷ ns) done ids all e = by (type_outside own nodes values n) refl e (λ id. types_told ns (done ++ id ∷ []) ids (All-tail (λ n. is_type (kind_at nodes n) ≡ true) n ns all))
    where
      by : (o : Option TypeId) → type_outside own nodes values n ≡ o → option_and_then (λ id. types_behind own nodes values (done ++ id ∷ []) ns) o ≡ Some ids →
          ((id : TypeId) → types_behind own nodes values (done ++ id ∷ []) ns ≡ Some ids → Are (done ++ id ∷ []) ids ns) → Are done ids (n ∷ ns)
      by None is e more = absurd (none-some ids e)
      by (Some id) is e more =
          let rest = more id e in (
            id ∷ rest.0,
            rest.1 ∙ append_assoc done (id ∷ []) rest.0,
            ap₂ type_and (seen_told nodes place types constants values known own home n (All-head (λ n. is_type (kind_at nodes n) ≡ true) n ns all) id (sym (outside_is n) ∙ is)) rest.2,
          )

  pub all_told : (ns : List ℕ) (ids : List TypeId) → All (λ n. is_type (kind_at nodes n) ≡ true) ns → types_behind own nodes values [] ns ≡ Some ids →
      types_by for_callers (heading_types place (types_at (item_at nodes) ns)) ≡ kept_at (types_of types) ids
  all_told ns ids all e = let so = types_told ns [] ids all e in so.2 ∙ ap (kept_at (types_of types)) (sym so.1)
