-- Types of constant parameters are by the tables those of the definitions, whatever more types there are.
use Rattle.std.proofs.Common.{◌≡◌, ◌∙◌, ℕ, Bool, true, false, List, length, Option, Some, None, inl, inr, refl, sym, ap, subst}
use Rattle.std.specs.Prelude.{slice_get}
use Rattle.clu_base.proofs.Lists.{front_get}
use Rattle.clu_types.specs.CluType.{CluType}
use Rattle.clu_types.specs.Arena.{Grows}
use Rattle.clu_types.specs.declared.spec.ParamKind.{ParamKind}
use Rattle.clu_types.specs.declared.term.Term.{Term}
use Rattle.clu_types.specs.declared.term.TypeId.{TypeId}
use Rattle.clu_tree.specs.declared.node.Node.{Node}
use Rattle.clu_tree.specs.Nodes.{IsTree}
use Rattle.clu_parser.specs.Shape.{HaveForms}
use Rattle.clu_syntax.specs.Kinds.{is_type, kind_at}
use Rattle.clu_syntax.specs.Syntax.{TypeExpression}
use Rattle.clu_meaning.specs.Scoping.{Scope}
use Rattle.clu_meaning.specs.Settling.{type_settled}
use Rattle.clu_checking.specs.Specifications.{Specification}
use Rattle.clu_checking.specs.Files.{File, item}
use Rattle.clu_checking.specs.Headings as headings
use Rattle.clu_checking.specs.Headings.{kind_of_parameter}
use Rattle.clu_settle.specs.declared.value.Value.{Value}
use Rattle.clu_settle.specs.declared.value.Value.TheVariants as value
use Rattle.clu_settle.specs.Lists.{type_id}
use Rattle.clu_settle.specs.Values.{IsWithin}
use Rattle.clu_head.specs.ParameterKinds as head
use Rattle.clu_bindings.specs.declared.file.File.{File as Read}
use Rattle.clu_bindings.specs.Named as named
use Rattle.clu_bindings.specs.Readers.{declared_parameter, value_in}
use Rattle.clu_name_rules.specs.declared.tables.Tables.{Tables}
use Rattle.clu_operations.specs.Finding.{IsBelowIf}
use Rattle.clu_passes.specs.ConstantTables.{AreTables, IsKnown, IsTypeOf, file_with}
use Rattle.clu_passes.specs.FactTables.{IsType}
use Rattle.clu_passes.proofs.Actuals as actuals
use Rattle.clu_passes.proofs.ConstantNodes.{value_within}
use Rattle.clu_passes.proofs.NodeTyped.{type_grown}
use Rattle.clu_passes.proofs.Strings.{value_same}

-- the kind of a type that is there
kind_grown : (old new : List Term) → Grows old new → (of : Option TypeId) → IsBelowIf (length old) of → head.kind_of_type new of ≡ head.kind_of_type old of
kind_grown old new grows None below = refl
kind_grown old new grows (Some id) below = ap (λ (ts : List Term). head.kind_in (slice_get ts id.0)) grows.1 ∙ ap head.kind_in (front_get old grows.0 id.0 below)

-- the type that a value is stands in the arena
pub below_if : (types constants : ℕ) (v : Value) → IsWithin types constants v → IsBelowIf types (type_id v)
below_if types constants value.Nothing within = tt
below_if types constants value.Lost within = tt
below_if types constants (value.Type id) within = within.0
below_if types constants (value.Constant k) within = tt
below_if types constants (value.Parameter k) within = tt

module _ (t : Tables) (scope : Scope) (library : List Specification) (refused : List ℕ) (shaped : HaveForms t.file.syntax.now) (tree : IsTree t.file.syntax.now) (are : AreTables (file_with t.file scope library refused) t) where
  abbrev nodes : List Node
  nodes = t.file.syntax.now

  abbrev f : File
  f = file_with t.file scope library refused

  abbrev r : Read
  r = t.file

  abbrev types : List Term
  types = t.types.now

  legal_by : (of : Option TypeId) (u : CluType) (k : Option ParamKind) → IsType types of (Some u) → IsType types (named.legal_type of k) (headings.legal_type u k)
  legal_by of u (Some k) is = is
  legal_by of u None is = tt

  at_node : (c : ℕ) → is_type (kind_at nodes c) ≡ true → IsType types (named.legal_type (type_id (value_in r c)) (head.kind_of_type types (type_id (value_in r c)))) (headings.legal_type (type_settled scope (item f c).type) (kind_of_parameter f (Some (item f c).type)))
  at_node c is = by (value_in r c) refl
    where
      known_so : IsKnown r c → IsType types (named.legal_type (type_id (value_in r c)) (head.kind_of_type types (type_id (value_in r c)))) (headings.legal_type (type_settled scope (item f c).type) (kind_of_parameter f (Some (item f c).type)))
      known_so known =
          let k = actuals.type_known t scope library refused shaped tree are c is known in
          subst (λ (kd : Option ParamKind). IsType types (named.legal_type (type_id (value_in r c)) (head.kind_of_type types (type_id (value_in r c)))) (headings.legal_type (type_settled scope (item f c).type) kd))
          (sym (actuals.legal_kind t scope library refused shaped tree are c is))
          (legal_by (type_id (value_in r c)) (type_settled scope (item f c).type) (head.kind_of_type types (type_id (value_in r c)))
          (subst (λ (of : Option TypeId). IsType types of (Some (type_settled scope (item f c).type))) (sym k.value) (k.less, k.type)))

      by : (v : Value) → value_in r c ≡ v → IsType types (named.legal_type (type_id (value_in r c)) (head.kind_of_type types (type_id (value_in r c)))) (headings.legal_type (type_settled scope (item f c).type) (kind_of_parameter f (Some (item f c).type)))
      by value.Lost at =
          subst (λ (kd : Option ParamKind). IsType types (named.legal_type (type_id (value_in r c)) (head.kind_of_type types (type_id (value_in r c)))) (headings.legal_type (type_settled scope (item f c).type) kd))
          (sym ((are.legal c is).lost (sym (value_same r.values.now c) ∙ at)))
          (subst (λ (of : Option TypeId). IsType types (named.legal_type of (head.kind_of_type types of)) None) (sym (ap type_id at)) tt)
      by value.Nothing at = known_so (λ e. let no : value.Nothing ≡ value.Lost = sym at ∙ e in cc)
      by (value.Type id) at = known_so (λ e. let no : value.Type id ≡ value.Lost = sym at ∙ e in cc)
      by (value.Constant k) at = known_so (λ e. let no : value.Constant k ≡ value.Lost = sym at ∙ e in cc)
      by (value.Parameter k) at = known_so (λ e. let no : value.Parameter k ≡ value.Lost = sym at ∙ e in cc)

  typed_by : (o : Option ℕ) (its : Option TypeExpression) → IsTypeOf nodes o its → IsType types (named.type_of_parameter r types o) (headings.parameter_type_of f its)
  typed_by None None is = tt
  typed_by None (Some u) is = absurd is
  typed_by (Some c) None is = absurd is
  typed_by (Some c) (Some u) is =
      subst (λ (u : TypeExpression). IsType types (named.type_of_parameter r types (Some c)) (headings.parameter_type_of f (Some u))) is.1 (at_node c is.0)

  pub parameter_typed : (n k : ℕ) → IsType types (named.parameter_type r types n k) (headings.parameter_type f n k)
  parameter_typed n k = typed_by (declared_parameter r n k) (headings.declared_parameter f n k) (are.parameters n k)

  -- it is read alike from a longer arena
  read_by : (new : List Term) → Grows types new → (o : Option ℕ) → named.type_of_parameter r new o ≡ named.type_of_parameter r types o
  read_by new grows None = refl
  read_by new grows (Some c) =
      ap (named.legal_type (type_id (value_in r c)))
      (kind_grown types new grows (type_id (value_in r c)) (below_if (length types) (length r.constants.now) (value_in r c) (value_within t scope library refused shaped tree are c)))

  pub parameter_grown : (new : List Term) → Grows types new → (n k : ℕ) (u : Option CluType) → IsType types (named.parameter_type r types n k) u → IsType new (named.parameter_type r new n k) u
  parameter_grown new grows n k u is =
      subst (λ (of : Option TypeId). IsType new of u) (sym (read_by new grows (declared_parameter r n k))) (type_grown types new grows (named.parameter_type r types n k) u is)
