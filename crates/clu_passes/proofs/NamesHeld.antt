-- What a name stands for that is an expression, by the tables of a file, where the values that are read of it are known.
use Rattle.std.proofs.Common.{◌≡◌, ◌∙◌, ◌<◌, ◌||◌, ℕ, zero, suc, true, false, List, [], ◌∷◌, length, slice_get, Some, refl, ap, subst, arith}
use Rattle.clu_base.specs.declared.constants.Const.{Const}
use Rattle.clu_tree.specs.declared.node.NodeKind.TheVariants as kind
use Rattle.clu_tree.specs.Nodes.{IsTree}
use Rattle.clu_parser.specs.Shape.{HaveForms}
use Rattle.clu_types.specs.CluType.{CluType, no_actuals}
use Rattle.clu_types.specs.Arena.{type_at, types_of}
use Rattle.clu_types.specs.declared.term.Term.{Term}
use Rattle.clu_syntax.specs.Items.{Item}
use Rattle.clu_syntax.specs.Kinds.{is_expression, is_type, kind_at}
use Rattle.clu_syntax.specs.Syntax.{Expression, an_expression}
use Rattle.clu_meaning.specs.Scoping as means
use Rattle.clu_meaning.specs.Scoping.{Scope}
use Rattle.clu_meaning.specs.Settling.{Value as Settled, settled, settled_type, settled_constant, settled_parameter, unsettled, module_type, value_of_constant, value_of_meaning}
use Rattle.clu_settle.specs.declared.value.Value.{Value}
use Rattle.clu_settle.specs.declared.value.Value.TheVariants as value
use Rattle.clu_settle.specs.Lists.{type_id}
use Rattle.clu_settle.specs.Values.{Agrees, IsWithin, constant_at, told}
use Rattle.clu_settle.proofs.Parts.{constant_is, expression_is_constant}
use Rattle.clu_checking.specs.Specifications.{Specification}
use Rattle.clu_checking.specs.Files.{File, item, meaning}
use Rattle.clu_checking.specs.Headings.{known_inside, own_type, parameter_type}
use Rattle.clu_checking.specs.Settled.{value_settled}
use Rattle.clu_checking.specs.Wanted.{first_name_at}
use Rattle.clu_bindings.specs.declared.file.Headed.{Headed}
use Rattle.clu_bindings.specs.declared.meaning.Meaning.{Meaning}
use Rattle.clu_bindings.specs.Inside as bound
use Rattle.clu_bindings.specs.Named as named
use Rattle.clu_bindings.specs.Readers.{meaning_in, value_in}
use Rattle.clu_name_rules.specs.declared.tables.Tables.{Tables}
use Rattle.clu_passes.specs.ConstantTables.{AreTables, IsEquateKnown, IsKnown, Means, file_with}
use Rattle.clu_passes.specs.FactTables.{IsType}
use Rattle.clu_passes.specs.NamesKnown.{IsNameKnown, IsValueKnown, variable_of}
use Rattle.clu_passes.proofs.ConstantNodes.{a_name_at, value_agrees, value_within}

constant_there : (cs : List Const) (k : ℕ) → k < length cs → slice_get cs k ≡ Some (constant_at cs k)
constant_there [] k less = absurd (omega (arith, less))
constant_there (c ∷ cs) zero less = refl
constant_there (c ∷ cs) (suc k) less = constant_there cs k (omega (arith, less))

module _ (h : Headed) (its : Tables) (scope : Scope) (library : List Specification) (refused : List ℕ) (shaped : HaveForms h.file.syntax.now) (tree : IsTree h.file.syntax.now) (are : AreTables (file_with h.file scope library refused) (record its { file = h.file })) (items : ℕ → Item) where
  abbrev f : File
  f = file_with h.file scope library refused

  abbrev terms : List Term
  terms = its.types.now

  abbrev tables : Tables
  tables = record its { file = h.file }

  -- ---- values

  value_known : (v : Value) (s : Settled) → (v ≡ value.Lost → ⊥) → IsWithin (length terms) (length h.file.constants.now) v → Agrees (told (types_of terms) h.file.constants.now v) s → IsValueKnown f h items terms v s
  value_known value.Nothing s known within e = e
  value_known value.Lost s known within e = absurd (known refl)
  value_known (value.Type id) s known within e = (type_at (types_of terms) id, e)
  value_known (value.Constant k) s known within e = (constant_at h.file.constants.now k, constant_there h.file.constants.now k within.1, e)
  value_known (value.Parameter k) s known within e = e

  -- a type to which a node comes
  type_known : (v : Value) (t : CluType) → (v ≡ value.Lost → ⊥) → IsWithin (length terms) (length h.file.constants.now) v → Agrees (told (types_of terms) h.file.constants.now v) (settled_type t) → IsType terms (type_id v) (Some t)
  type_known value.Nothing t known within e = absurd (let bad : settled_type t ≡ unsettled = e in cc)
  type_known value.Lost t known within e = absurd (known refl)
  type_known (value.Type id) t known within e = (within.0, let same : settled_type t ≡ settled_type (type_at (types_of terms) id) = e in cc)
  type_known (value.Constant k) t known within e = absurd (let bad : settled_type t ≡ settled_constant (constant_at h.file.constants.now k) = e in cc)
  type_known (value.Parameter k) t known within e = absurd (let bad : settled_type t ≡ settled_parameter k = e in cc)

  pub settled_known : (n : ℕ) (t : CluType) → IsKnown h.file n → (is_expression (kind_at h.file.syntax.now n) || is_type (kind_at h.file.syntax.now n)) ≡ true → value_settled scope (item f n).constant ≡ settled_type t → IsType terms (type_id (value_in h.file n)) (Some t)
  settled_known n t known is e =
      type_known (value_in h.file n) t known (value_within tables scope library refused shaped tree are n)
      (subst (λ (s : Settled). Agrees (told (types_of terms) h.file.constants.now (value_in h.file n)) s) e (value_agrees tables scope library refused shaped tree are n known is))

  -- ---- names

  -- what a name comes to that is an expression
  comes_to : (n : ℕ) → kind_at h.file.syntax.now n ≡ kind.Name → value_settled scope (item f n).constant ≡ value_of_meaning scope (settled scope) (first_name_at f n) no_actuals (meaning f n (first_name_at f n))
  comes_to n is =
      ap (value_of_constant scope (settled scope)) (constant_is h.file.syntax.now n false (ap is_type is))
      ∙ ap (λ (e : Expression). value_of_constant scope (settled scope) (an_expression e)) (a_name_at tables scope library refused n is)

  pub name_known : (n : ℕ) → kind_at h.file.syntax.now n ≡ kind.Name → IsKnown h.file n → IsEquateKnown h.file (meaning_in h.file n) → ((k : ℕ) → IsType terms (named.parameter_type h.file terms n k) (parameter_type f n k)) → ((t : ℕ) → variable_of (meaning_in h.file n) ≡ Some t → IsType terms (bound.known_inside h items n t) (known_inside f n (item f t).type))
      → IsType terms (bound.own_type h.file n) (own_type f n) → IsNameKnown f h items terms n n (first_name_at f n)
  name_known n is known equated parameters variables own = record {
    means = named_so;
    equate = λ c e.
        value_known (value_in h.file c) (value_settled scope (item f c).constant) (subst (λ (m : Meaning). IsEquateKnown h.file m) e equated) (value_within tables scope library refused shaped tree are c)
        (value_agrees tables scope library refused shaped tree are c (subst (λ (m : Meaning). IsEquateKnown h.file m) e equated) (subst (λ (m : Meaning). Means f.nodes m (meaning f n (first_name_at f n))) e named_so).0);
    parameters = parameters;
    variables = variables;
    own = own;
    instance = λ id e.
        settled_known n (module_type (first_name_at f n) no_actuals) known (expression_is_constant h.file.syntax.now n (ap is_expression is))
        (comes_to n is ∙ ap (value_of_meaning scope (settled scope) (first_name_at f n) no_actuals) (subst (λ (m : Meaning). Means f.nodes m (meaning f n (first_name_at f n))) e named_so));
  }
    where
      named_so : Means f.nodes (meaning_in h.file n) (meaning f n (first_name_at f n))
      named_so = (are.named n is).means
