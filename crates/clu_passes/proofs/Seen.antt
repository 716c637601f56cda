-- What the value of a node tells of the type there.
use Rattle.std.proofs.Common.{◌≡◌, ◌∙◌, ℕ, true, List, Option, Some, sym, ap, subst}
use Rattle.std.specs.Option.{option_map}
use Rattle.std.proofs.lemmas.Option.{none-some, same_Some}
use Rattle.clu_base.specs.declared.constants.Const.{Const}
use Rattle.clu_types.specs.CluType.{CluType}
use Rattle.clu_types.specs.declared.term.Term.{Term}
use Rattle.clu_types.specs.declared.term.TypeId.{TypeId}
use Rattle.clu_types.specs.Arena.{types_of, type_at}
use Rattle.clu_tree.specs.declared.node.Node.{Node}
use Rattle.clu_syntax.specs.declared.words.SimpleType.TheVariants as simple
use Rattle.clu_syntax.specs.Kinds.{is_type, kind_at}
use Rattle.clu_syntax.specs.Syntax.{TypeExpression, a_simple_type}
use Rattle.clu_syntax.specs.Nodes.{item_at}
use Rattle.clu_meaning.specs.Scoping.{Scope}
use Rattle.clu_meaning.specs.Settling.{settled, type_settled, type_in, value_of_constant}
use Rattle.clu_meaning.specs.Resolving.{Place, type_or, heading_type}
use Rattle.clu_checking.specs.Headings.{for_callers}
use Rattle.clu_settle.specs.declared.value.Value.{Value}
use Rattle.clu_settle.specs.declared.value.Value.TheVariants as value
use Rattle.clu_settle.specs.Values.{told, Agrees}
use Rattle.clu_settle.specs.Lists.{type_id, value_of}
use Rattle.clu_settle.specs.Settled.{AreSettled}
use Rattle.clu_head.specs.Seen.{seen_type}
use Rattle.clu_settle.proofs.Parts.{constant_is, type_is_constant}

is_known : (v : Value) (id : TypeId) → type_id v ≡ Some id → v ≡ value.Type id
is_known (value.Type id) other e = ap value.Type (same_Some id other e)
is_known _ id e = absurd (none-some id e)

module _ (nodes : List Node) (scope : Scope) (types : List Term) (constants : List Const) (values : List Value) (known : AreSettled nodes scope types constants values) (n : ℕ) (is : is_type (kind_at nodes n) ≡ true) where
  pub type_told : (id : TypeId) → type_id (value_of values n) ≡ Some id → type_settled scope (item_at nodes n).type ≡ type_at (types_of types) id
  type_told id e =
      let agrees : Agrees (told (types_of types) constants (value.Type id)) (value_of_constant scope (settled scope) (item_at nodes n).constant) =
      subst (λ (v : Value). Agrees (told (types_of types) constants v) (value_of_constant scope (settled scope) (item_at nodes n).constant)) (is_known (value_of values n) id e) (known.each n (type_is_constant nodes n is)) in
      ap (λ c. type_in (value_of_constant scope (settled scope) c)) (sym (constant_is nodes n true is)) ∙ ap type_in agrees

-- as callers see it, by its form
seen_so : (place : Place) (types : List CluType) (own : Option TypeId) (t : TypeExpression) (v : Value) (id : TypeId) → option_map (type_at types) own ≡ place.home → (type_id v ≡ Some id → type_settled place.scope t ≡ type_at types id) → seen_type own t v ≡ Some id → for_callers (heading_type place t) ≡ type_at types id
seen_so place types own (a_simple_type n simple.Cvt) v id home so e =
    ap (λ (h : Option CluType). for_callers (type_or place h (type_settled place.scope (a_simple_type n simple.Cvt)))) (sym home ∙ ap (option_map (type_at types)) e)
seen_so place types own _ v id home so e = so e

pub seen_told : (nodes : List Node) (place : Place) (types : List Term) (constants : List Const) (values : List Value) → AreSettled nodes place.scope types constants values → (own : Option TypeId) → option_map (type_at (types_of types)) own ≡ place.home → (n : ℕ) → is_type (kind_at nodes n) ≡ true → (id : TypeId) → seen_type own (item_at nodes n).type (value_of values n) ≡ Some id → for_callers (heading_type place (item_at nodes n).type) ≡ type_at (types_of types) id
seen_told nodes place types constants values known own home n is id e =
    seen_so place (types_of types) own (item_at nodes n).type (value_of values n) id home (type_told nodes place.scope types constants values known n is id) e
