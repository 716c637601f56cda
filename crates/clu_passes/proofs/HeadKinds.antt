-- The kinds of parameters that a head lists are those of the definition.
use Rattle.std.proofs.Common.{◌≡◌, ◌∙◌, ℕ, ◌<◌, List, [], ◌∷◌, ◌++◌, map, length, Option, Some, None, if◌then◌else◌, refl, sym, ap, subst}
use Rattle.std.specs.Prelude.{All, flat_map, slice_get}
use Rattle.std.proofs.lemmas.Option.{none-some, same_Some}
use Rattle.std.proofs.lemmas.List.Elements.{All-head, All-tail}
use Rattle.clu_base.specs.declared.constants.Const.{Const}
use Rattle.clu_types.specs.declared.spec.ParamKind.{ParamKind}
use Rattle.clu_types.specs.declared.term.Term.{Term}
use Rattle.clu_types.specs.declared.term.TypeId.{TypeId}
use Rattle.clu_types.specs.Arena.{types_of, IsArena}
use Rattle.clu_tree.specs.declared.node.Node.{Node}
use Rattle.clu_tree.specs.declared.node.NodeKind.{NodeKind}
use Rattle.clu_tree.specs.declared.node.NodeKind.TheVariants as kind
use Rattle.clu_tree.specs.Nodes.{IsTree}
use Rattle.clu_syntax.specs.Splits.{is_of, type_of, children_of}
use Rattle.clu_checking.specs.Files.{File, item}
use Rattle.clu_checking.specs.Headings.{kinds_in}
use Rattle.clu_settle.specs.declared.value.Value.{Value}
use Rattle.clu_settle.specs.declared.value.Value.TheVariants as value
use Rattle.clu_settle.specs.Lists.{type_id, value_of}
use Rattle.clu_settle.specs.Names.{names_of}
use Rattle.clu_settle.specs.Settled.{AreSettled}
use Rattle.clu_settle.specs.Values.{IsWithin}
use Rattle.clu_settle.proofs.Within.{value_within}
use Rattle.clu_head.specs.Outside.{times}
use Rattle.clu_head.specs.ParameterKinds as head
use Rattle.clu_head.specs.ParameterKinds.{kinds_of}
use Rattle.clu_passes.specs.Legal.{AreLegalKnown}
use Rattle.clu_passes.specs.ParameterKinds.{kind_known, kind_by, kinds_at, IsParm}
use Rattle.clu_passes.proofs.Actuals.{type_kind}
use Rattle.clu_passes.proofs.ParameterKinds.{kinds_are}

pub type_within : (types constants : ℕ) (v : Value) (id : TypeId) → IsWithin types constants v → type_id v ≡ Some id → id.0 < types
type_within types constants value.Nothing id within e = absurd (none-some id e)
type_within types constants value.Lost id within e = absurd (none-some id e)
type_within types constants (value.Constant k) id within e = absurd (none-some id e)
type_within types constants (value.Parameter k) id within e = absurd (none-some id e)
type_within types constants (value.Type other) id within e = subst (λ (t : TypeId). t.0 < types) (same_Some other id e) within.0

module _ (f : File) (types : List Term) (constants : List Const) (values : List Value) (settled : AreSettled f.nodes f.scope types constants values) (tree : IsTree f.nodes) (arena : IsArena types) (legal : AreLegalKnown f values) where
  kind_same : (o : Option ℕ) → head.kind_declared types values o ≡ kind_by (types_of types) values o
  kind_same None = refl
  kind_same (Some c) = by (type_id (value_of values c)) refl
    where
      by : (k : Option TypeId) → type_id (value_of values c) ≡ k → head.kind_of_type types (type_id (value_of values c)) ≡ kind_known (types_of types) (type_id (value_of values c))
      by None e = ap (head.kind_of_type types) e ∙ sym (ap (kind_known (types_of types)) e)
      by (Some id) e =
          let less : id.0 < length types = type_within (length types) (length constants) (value_of values c) id (value_within (length types) (length constants) values c settled.within) e in
          ap (head.kind_of_type types) e ∙ sym (type_kind types arena id less) ∙ ap (kind_known (types_of types)) (sym e)

  of_parm : (node : Node) → node.kind ≡ kind.Parm → head.kinds_in types values f.nodes node ≡ times (head.kind_declared types values (type_of f.nodes node.children)) node.names
  of_parm node is = ap (λ (k : NodeKind). if is_of kind.Parm k then times (head.kind_declared types values (type_of f.nodes node.children)) node.names else []) is

  kinds_same : (n : ℕ) → IsParm f.nodes n → head.kinds_at types values f.nodes (slice_get f.nodes n) ≡ kinds_at (types_of types) values f.nodes n
  kinds_same n parm =
      ap (head.kinds_at types values f.nodes) parm.there
      ∙ of_parm parm.node parm.of_kind
      ∙ ap (λ (k : Option ParamKind). map (λ name. k) parm.node.names) (kind_same (type_of f.nodes parm.node.children))
      ∙ ap (λ (o : Option Node). map (λ name. kind_by (types_of types) values (type_of f.nodes (children_of o))) (names_of o)) (sym parm.there)

  all_same : (ns : List ℕ) → All (IsParm f.nodes) ns → kinds_of types values f.nodes ns ≡ flat_map (kinds_at (types_of types) values f.nodes) ns
  unfolding kinds_of
  all_same [] all = refl
  all_same (n ∷ ns) all =
      ap (λ (ks : List (Option ParamKind)). ks ++ kinds_of types values f.nodes ns) (kinds_same n (All-head (IsParm f.nodes) n ns all))
      ∙ ap (λ (ks : List (Option ParamKind)). kinds_at (types_of types) values f.nodes n ++ ks) (all_same ns (All-tail (IsParm f.nodes) n ns all))

  pub kinds_listed : (ns : List ℕ) → All (IsParm f.nodes) ns → kinds_of types values f.nodes ns ≡ kinds_in f (map (λ n. (item f n).parameter) ns)
  kinds_listed ns all = all_same ns all ∙ sym (kinds_are f types constants values settled tree legal ns all)
