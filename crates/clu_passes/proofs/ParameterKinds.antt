-- The kinds of parameters are those of the types that their nodes tell.
use Rattle.std.proofs.Common.{◌≡◌, ◌∙◌, ℕ, ◌<◌, Bool, true, false, if◌then◌else◌, List, [], ◌∷◌, ◌++◌, map, Option, Some, None, refl, sym, ap, subst}
use Rattle.std.specs.Prelude.{All, flat_map}
use Rattle.std.proofs.lemmas.Option.{none-some, same_Some}
use Rattle.std.proofs.lemmas.List.Elements.{All-head, All-tail}
use Rattle.clu_base.specs.declared.constants.Const.{Const}
use Rattle.clu_types.specs.declared.spec.ParamKind.{ParamKind}
use Rattle.clu_types.specs.declared.term.Term.{Term}
use Rattle.clu_types.specs.Arena.{types_of}
use Rattle.clu_tree.specs.declared.node.Node.{Node}
use Rattle.clu_tree.specs.Nodes.{IsTree}
use Rattle.clu_syntax.specs.Kinds.{is_type, kind_at}
use Rattle.clu_syntax.specs.Splits.{type_of, children_of}
use Rattle.clu_syntax.specs.Syntax.{Constant, Parameter}
use Rattle.clu_syntax.specs.Items.{Item, type_of_option}
use Rattle.clu_syntax.specs.Nodes.{item_at, before, parameter_of, parameter_from}
use Rattle.clu_meaning.specs.Settling.{settled_type, type_settled, value_of_constant}
use Rattle.clu_meaning.specs.Settling.{settled as settled_in}
use Rattle.clu_checking.specs.Files.{File, item}
use Rattle.clu_checking.specs.Headings.{kind_of_type, kind_unless, kind_of_parameter, kinds_in}
use Rattle.clu_settle.specs.declared.value.Value.{Value}
use Rattle.clu_settle.specs.declared.value.Value.TheVariants as value
use Rattle.clu_settle.specs.Lists.{type_id, value_of}
use Rattle.clu_settle.specs.Names.{names_of}
use Rattle.clu_settle.specs.Settled.{AreSettled}
use Rattle.clu_settle.specs.Values.{told, Agrees}
use Rattle.clu_settle.proofs.Parts.{item_there, before_is, constant_is, type_is_constant}
use Rattle.clu_passes.specs.Legal.{AreLegalKnown}
use Rattle.clu_passes.specs.ParameterKinds.{kind_known, kind_by, kinds_at, IsParm}
use Rattle.clu_passes.proofs.Seen.{type_told}

-- the first of the children, if it is a type
pub first_type : (nodes : List Node) (n : ℕ) (cs : List ℕ) (c : ℕ) → All (λ d. d < n) cs → type_of nodes cs ≡ Some c → (c < n) × (is_type (kind_at nodes c) ≡ true)
first_type nodes n [] c below e = absurd (none-some c e)
first_type nodes n (d ∷ ds) c below e = by (is_type (kind_at nodes d)) refl e
  where
    by : (b : Bool) → is_type (kind_at nodes d) ≡ b → (if b then Some d else None) ≡ Some c → (c < n) × (is_type (kind_at nodes c) ≡ true)
    by true is e =
        let same : d ≡ c = same_Some d c e in
        (subst (λ (x : ℕ). x < n) same (All-head (λ x. x < n) d ds below), subst (λ (x : ℕ). is_type (kind_at nodes x) ≡ true) same is)
    by false is e = absurd (none-some c e)

module _ (f : File) (types : List Term) (constants : List Const) (values : List Value) (settled : AreSettled f.nodes f.scope types constants values) (tree : IsTree f.nodes) (legal : AreLegalKnown f values) where
  legal_kind : (c : ℕ) → is_type (kind_at f.nodes c) ≡ true → kind_of_parameter f (Some (item_at f.nodes c).type) ≡ kind_known (types_of types) (type_id (value_of values c))
  legal_kind c is = by (value_of values c) refl agrees
    where
      agrees : Agrees (told (types_of types) constants (value_of values c)) (settled_type (type_settled f.scope (item_at f.nodes c).type))
      agrees = subst (λ (k : Constant). Agrees (told (types_of types) constants (value_of values c)) (value_of_constant f.scope (settled_in f.scope) k)) (constant_is f.nodes c true is) (settled.each c (type_is_constant f.nodes c is))

      by : (v : Value) → value_of values c ≡ v → Agrees (told (types_of types) constants v) (settled_type (type_settled f.scope (item_at f.nodes c).type)) → kind_of_parameter f (Some (item_at f.nodes c).type) ≡ kind_known (types_of types) (type_id (value_of values c))
      by value.Lost at e = (legal c is).lost at ∙ sym (ap (λ (v : Value). kind_known (types_of types) (type_id v)) at)
      by value.Nothing at e = absurd (cc)
      by (value.Constant k) at e = absurd (cc)
      by (value.Parameter k) at e = absurd (cc)
      by (value.Type id) at e =
          ap (λ (b : Bool). kind_unless b (kind_of_type (type_settled f.scope (item_at f.nodes c).type))) ((legal c is).found (λ lost. cc))
          ∙ ap kind_of_type (type_told f.nodes f.scope types constants values settled c is id (ap type_id at))
          ∙ sym (ap (λ (v : Value). kind_known (types_of types) (type_id v)) at)

  kind_told : (n : ℕ) (o : Option ℕ) → ((c : ℕ) → o ≡ Some c → (c < n) × (is_type (kind_at f.nodes c) ≡ true)) →
      kind_of_parameter f (type_of_option (before n (item_at f.nodes)) o) ≡ kind_by (types_of types) values o
  kind_told n None typed = refl
  kind_told n (Some c) typed =
      let t = typed c refl in
      ap (λ (i : Item). kind_of_parameter f (Some i.type)) (before_is f.nodes n c t.0) ∙ legal_kind c t.1

  kinds_told : (n : ℕ) → IsParm f.nodes n → map (λ name. kind_of_parameter f (item f n).parameter.type) (item f n).parameter.names ≡ kinds_at (types_of types) values f.nodes n
  kinds_told n parm =
      ap (λ (p : Parameter). map (λ name. kind_of_parameter f p.type) p.names) its
      ∙ ap (λ (k : Option ParamKind). map (λ name. k) parm.node.names) told_here
      ∙ ap (λ (o : Option Node). map (λ name. kind_by (types_of types) values (type_of f.nodes (children_of o))) (names_of o)) (sym parm.there)
    where
      its : (item f n).parameter ≡ parameter_from (before n (item_at f.nodes)) f.nodes n parm.node
      its = ap (λ (i : Item). i.parameter) (item_there f.nodes n parm.node parm.there) ∙ ap (parameter_of (before n (item_at f.nodes)) f.nodes n parm.node) parm.of_kind

      told_here : kind_of_parameter f (type_of_option (before n (item_at f.nodes)) (type_of f.nodes parm.node.children)) ≡ kind_by (types_of types) values (type_of f.nodes parm.node.children)
      told_here = kind_told n (type_of f.nodes parm.node.children) (λ c e. first_type f.nodes n parm.node.children c (tree.below n parm.node parm.there) e)

  pub kinds_are : (ns : List ℕ) → All (IsParm f.nodes) ns → kinds_in f (map (λ n. (item f n).parameter) ns) ≡ flat_map (kinds_at (types_of types) values f.nodes) ns
  kinds_are [] all = refl
  kinds_are (n ∷ ns) all =
      ap (λ (ks : List (Option ParamKind)). ks ++ kinds_in f (map (λ n. (item f n).parameter) ns)) (kinds_told n (All-head (IsParm f.nodes) n ns all))
      ∙ ap (λ (ks : List (Option ParamKind)). kinds_at (types_of types) values f.nodes n ++ ks) (kinds_are ns (All-tail (IsParm f.nodes) n ns all))
