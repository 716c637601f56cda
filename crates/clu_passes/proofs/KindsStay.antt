-- The kinds of parameters stay as they are while the arena grows.
use Rattle.std.proofs.Common.{◌≡◌, ◌∙◌, ℕ, Bool, List, [], ◌∷◌, ◌++◌, length, Option, Some, None, refl, sym, ap, ap₂, subst}
use Rattle.std.specs.Prelude.{All, slice_get, if◌then◌else◌}
use Rattle.std.proofs.lemmas.Option.{slice_get_within, get_or_from_slice_get}
use Rattle.clu_base.proofs.Lists.{front_get}
use Rattle.clu_tree.specs.declared.node.Node.{Node}
use Rattle.clu_tree.specs.declared.node.NodeKind.TheVariants as kind
use Rattle.clu_syntax.specs.Splits.{is_of, type_of}
use Rattle.clu_types.specs.Arena.{Grows}
use Rattle.clu_types.proofs.Carrying.{grows_on}
use Rattle.clu_types.specs.declared.spec.ParamKind.{ParamKind}
use Rattle.clu_types.specs.declared.term.TypeId.{TypeId}
use Rattle.clu_types.specs.declared.term.Term.{Term}
use Rattle.clu_settle.specs.declared.value.Value.{Value}
use Rattle.clu_settle.specs.declared.value.Value.TheVariants as value
use Rattle.clu_settle.specs.Values.{TypeWithin, value_in}
use Rattle.clu_settle.specs.Lists.{type_id, value_of}
use Rattle.clu_head.specs.declared.asked.Asked.{Asked}
use Rattle.clu_head.specs.declared.known.Known.{Known}
use Rattle.clu_head.specs.Outside.{times}
use Rattle.clu_head.specs.ParameterKinds.{kind_in, kind_of_type, kind_declared, kinds_at, kinds_of}
use Rattle.clu_head.specs.Modules.{AreKinds}

module _ (old new : List Term) (grows : Grows old new) where
  value_same : (v : Value) → TypeWithin (length old) v → kind_of_type new (type_id v) ≡ kind_of_type old (type_id v)
  value_same (value.Type id) within = ap (λ (ts : List Term). kind_in (slice_get ts id.0)) grows.1 ∙ ap kind_in (front_get old grows.0 id.0 within)
  value_same _ within = refl

  module _ (values : List Value) (all : All (TypeWithin (length old)) values) where
    at_same : (i : ℕ) → kind_of_type new (type_id (value_of values i)) ≡ kind_of_type old (type_id (value_of values i))
    at_same i =
        by (slice_get values i) (λ v is. subst (TypeWithin (length old)) (get_or_from_slice_get values i v v is) (all i v (slice_get_within values i v is)))
      where
        by : (o : Option Value) → ((v : Value) → o ≡ Some v → TypeWithin (length old) v) → kind_of_type new (type_id (value_in o)) ≡ kind_of_type old (type_id (value_in o))
        by (Some v) each = value_same v (each v refl)
        by None each = refl

    declared_same : (o : Option ℕ) → kind_declared new values o ≡ kind_declared old values o
    declared_same (Some n) = at_same n
    declared_same None = refl

    module _ (nodes : List Node) where
      node_same : (its : Option Node) → kinds_at new values nodes its ≡ kinds_at old values nodes its
      node_same (Some node) = ap (λ (k : Option ParamKind). if is_of kind.Parm node.kind then times k node.names else []) (declared_same (type_of nodes node.children))
      node_same None = refl

      pub kinds_same : (ns : List ℕ) → kinds_of new values nodes ns ≡ kinds_of old values nodes ns
      unfolding kinds_of
      kinds_same [] = refl
      kinds_same (n ∷ ns) = ap₂ (λ (xs ys : List (Option ParamKind)). xs ++ ys) (node_same (slice_get nodes n)) (kinds_same ns)

-- those of a head are the kinds by the whole arena
pub kinds_stay : (k : Known) (asked : Asked) (old new : List Term) → All (TypeWithin (length old)) k.values.now → (parameters : List ℕ) (kinds : List (Option ParamKind)) → AreKinds k asked old new parameters kinds → kinds ≡ kinds_of new k.values.now k.syntax.now parameters
unfolding AreKinds
kinds_stay k asked old new all parameters kinds are =
    are.3
    ∙ kinds_same old are.0 are.1 k.values.now all k.syntax.now parameters
    ∙ sym (kinds_same old new (grows_on old are.0 new are.1 are.2) k.values.now all k.syntax.now parameters)
