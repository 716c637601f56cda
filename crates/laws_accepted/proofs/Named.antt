-- Names that keep the rules are well typed in each instance of their text: variables, constants, and routines by their names and
-- types; and constructors of elements.
use Rattle.std.proofs.Common.{◌≡◌, ℕ, true, false, List, [], ◌∷◌, ◌++◌, map, Option, Some, refl, sym, ap, subst, ◌∙◌}
use Rattle.std.specs.Prelude.{◌&&◌, not, is_none, flat_map}
use Rattle.std.specs.List.{list_any}
use Rattle.std.specs.Option.{option_and_then}
use Rattle.std.proofs.lemmas.Bool.{and_from, or_parts}
use Rattle.clu_base.specs.declared.constants.Const.{Const}
use Rattle.clu_base.specs.declared.constants.Const.TheVariants as constant_of
use Rattle.clu_base.specs.declared.rules.Rule.TheVariants as rule
use Rattle.clu_tree.specs.declared.node.NodeKind.{NodeKind}
use Rattle.clu_tree.specs.declared.node.NodeKind.TheVariants as kind
use Rattle.clu_types.specs.CluType.{CluType, no_actuals}
use Rattle.clu_types.specs.Substituted.{substituted}
use Rattle.clu_builtin.specs.Operation.{one}
use Rattle.clu_layout.specs.Objects.{operation_of, object_of, own_type}
use Rattle.clu_layout.specs.SameType.{fits}
use Rattle.clu_syntax.specs.Syntax.{Identifier, Expression, a_name, an_operation, a_force, Constant, TypeExpression}
use Rattle.clu_meaning.specs.Scoping.{Meaning, is_equate, is_type_set, is_type_parameter, is_constant_parameter, is_local, is_own_of_routine, is_own_of_cluster, is_routine_of_cluster, is_module, number_of}
use Rattle.clu_meaning.specs.Settling.{Value, settled_type, settled_constant, settled_parameter, unsettled, settled, value_of_meaning, type_settled}
use Rattle.clu_meaning.specs.Programs as program_of
use Rattle.clu_meaning.specs.Programs.{Program, Variable, local, own_of_routine, own_of_cluster}
use Rattle.clu_meaning.specs.Resolving.{routine_here, constant_expression, expression_of}
use Rattle.clu_meaning.specs.Binding.{Running, put_in}
use Rattle.clu_checking.specs.Settled.{value_settled}
use Rattle.clu_checking.specs.Files.{File, item, meaning}
use Rattle.clu_checking.specs.Headings as headings
use Rattle.clu_checking.specs.Headings.{specification}
use Rattle.clu_checking.specs.Operations.{is_met, operation_found}
use Rattle.clu_checking.specs.Typing.{constant_type, found_type, force_type, value_type, own_found, type_of_meaning}
use Rattle.clu_checking.specs.Wanted.{an_object}
use Rattle.clu_checking.specs.Raising as raising
use Rattle.clu_checking.specs.Invocations.{is_object_wanted, invocations_by, operation_by, if_named, own_routine, named_routine, operations_by, operations_at, asks_of}
use Rattle.laws_sound.specs.Raises.{Raise}
use Rattle.laws_sound.specs.Sound.{LawfulBy}
use Rattle.laws_sound.specs.WellTyped.{HasTypes}
use Rattle.laws_accepted.specs.Legal.{Context, closed, is_legal}
use Rattle.laws_accepted.specs.Specified.{PutsIn}
use Rattle.laws_accepted.specs.Lawful.{Routines, is_lawful}
use Rattle.laws_accepted.specs.Instances.{AllMet, AsSpecified, Runs}
use Rattle.laws_accepted.specs.Standing.{MayRaise, NodeStands, ExpressionAt, VariableAt, ParameterAt, ValueAt, MeaningAt}
use Rattle.laws_accepted.proofs.Staying.{legal_put}
use Rattle.laws_accepted.proofs.FoundRuns.{fits_itself, found_runs, found_typed}
use Rattle.laws_accepted.proofs.AtNodes.{any_parts, operations_met}
use Rattle.laws_accepted.proofs.Raised.{raise_failing}
use Rattle.laws_accepted.proofs.Sugared.{some_there}
use Rattle.laws_accepted.proofs.ExpressionsTyped.{place, Typed, constant_still, constant_legal}

constant_type_is : (c : Const) → constant_type c ≡ own_type (object_of c)
constant_type_is constant_of.Null = refl
constant_type_is (constant_of.Bool b) = refl
constant_type_is (constant_of.Int n) = refl
constant_type_is (constant_of.Char c) = refl
constant_type_is (constant_of.Str bytes) = refl

module _ (f : File) (program : Program) (routines : Routines) (s : AsSpecified f program routines) (r : Running) (home : Option CluType) (context : Context) (rs : List Raise) where
  abbrev Here : ℕ → NodeKind → Expression → Type 0
  Here n k e = ExpressionAt f routines r home context n k an_object e

  abbrev Gives : Expression → Type 0
  Gives e = Typed f program routines s r home context rs e

  abbrev Legal : CluType → Type 0
  Legal t = is_legal context (specification f) t ≡ true

  abbrev To : CluType → CluType
  To t = substituted r.given t

  -- ---- the operation of a type at a node

  pub record NamedRuns (n : ℕ) (t : CluType) (name : Identifier) : Type 0 where
    pub type : CluType
    pub is : found_type (operation_found f n t name) ≡ Some type
    pub legal : Legal type
    pub runs : Runs program (LawfulBy (is_lawful (specification f) routines)) r (operation_of (To t) name) (To type)

  -- the only operation at a node
  only_runs : (n : ℕ) (k : NodeKind) → NodeStands f routines r home context n k → (t : CluType) (name : Identifier) → Legal t → operations_at f n ≡ operation_found f n t name ∷ [] → NamedRuns n t name
  only_runs n k x t name l e =
      let there = (or_parts (is_none (operation_found f n t name)) false (sym (ap (list_any is_none) e) ∙ x.rules rule.NoOperation)).0 in
      let y = some_there (operation_found f n t name) there in
      let asks : AllMet f n (asks_of f (operation_found f n t name)) = (any_parts (λ a. not (is_met f n a)) (asks_of f (operation_found f n t name)) [] (subst (λ os. AllMet f n (flat_map (asks_of f) os)) e (operations_met f n x.rules))).0 in
      let typed = found_typed f program routines s.specifications s.of_clusters s.texts n r x.runs t name y.0 y.1 in
      let runs = found_runs f program routines s.specifications s.of_clusters s.texts n r x.runs t name y.0 typed.0 (subst (λ c. is_legal c (specification f) t ≡ true) (sym x.around) l) y.1 typed.1 (subst (λ o. AllMet f n (asks_of f o)) y.1 asks) in
      record { type = typed.0; is = ap found_type y.1 ∙ typed.1; legal = subst (λ c. is_legal c (specification f) typed.0 ≡ true) x.around runs.1; runs = runs.0 }

  -- t$op
  pub operation_typed : (n : ℕ) (t : TypeExpression) (name : Identifier) → Here n kind.OperOf (an_operation n t name) → Legal (type_settled f.scope t) → Gives (an_operation n t name)
  operation_typed n t name x l =
      let e : operations_at f n ≡ operation_found f n (type_settled f.scope t) name ∷ [] = ap (λ k. map (λ i. i.invoked) (invocations_by f k n) ++ operations_by f k n) x.stands.kind ∙ ap (λ w. if_named f (is_object_wanted w) n) x.wants ∙ ap (operation_by f) x.is in
      let y = only_runs n kind.OperOf x.stands (type_settled f.scope t) name l e in
      record {
        type = y.type;
        is = y.is;
        legal = y.legal;
        own = y.runs.heading;
        typed = record { heading = y.runs.heading; there = y.runs.there; may = y.runs.may; law = y.runs.law; is = refl };
        fit = y.runs.fit;
      }

  -- force[t]
  pub force_typed : (n : ℕ) (t : TypeExpression) → Here n kind.Force (a_force n t) → Legal (type_settled f.scope t) → Gives (a_force n t)
  force_typed n t x l =
      let T : CluType = type_settled f.scope t in
      record {
        type = force_type T;
        is = refl;
        legal = and_from (is_legal context (specification f) T && true) true (and_from (is_legal context (specification f) T) true l refl) refl;
        own = To (force_type T);
        typed = record { heading = To (force_type T); there = refl; may = refl; law = legal_put (specification f) s.specifications context closed r.given (subst (λ c. PutsIn (specification f) c closed r.given) x.stands.around x.stands.runs.actuals) T l; is = refl };
        fit = fits_itself (To (force_type T));
      }

  -- ---- names, by what they denote

  pub record NameTyped (n : ℕ) (name : Identifier) (m : Meaning) : Type 0 where
    pub type : CluType
    pub is : type_of_meaning f n name m ≡ Some type
    pub legal : Legal type
    pub own : CluType
    pub typed : HasTypes program (LawfulBy (is_lawful (specification f) routines)) r rs (expression_of (place f program routines s r home context rs) n name no_actuals m) (one own)
    pub fit : fits own (To type) ≡ true

  abbrev Raises : Meaning → Type 0
  Raises m = MayRaise r.given (raising.use_of m) rs

  of_variable : (n : ℕ) (name : Identifier) (m : Meaning) (t : TypeExpression) (x : Variable) → type_of_meaning f n name m ≡ headings.known_inside f n t → expression_of (place f program routines s r home context rs) n name no_actuals m ≡ program_of.variable x → raising.use_of m ≡ raising.failure ∷ [] →
      VariableAt f routines r home context n t x → Raises m → NameTyped n name m
  of_variable n name m t x typed runs raised v raise = record {
    type = type_settled f.scope t;
    is = typed ∙ v.known;
    legal = v.legal;
    own = To (type_settled f.scope t);
    typed = subst (λ e. HasTypes program (LawfulBy (is_lawful (specification f) routines)) r rs e (one (To (type_settled f.scope t)))) (sym runs)
        (To (type_settled f.scope t), ap (put_in r) v.declared, refl, raise_failing r.given rs (subst (λ xs. MayRaise r.given xs rs) raised raise));
    fit = fits_itself (To (type_settled f.scope t));
  }

  of_parameter : (n k : ℕ) (name : Identifier) (m : Meaning) → type_of_meaning f n name m ≡ headings.parameter_type f n k → expression_of (place f program routines s r home context rs) n name no_actuals m ≡ program_of.constant_parameter k → ParameterAt f routines r home context n k → NameTyped n name m
  of_parameter n k name m typed runs p = record {
    type = own_type (object_of p.constant);
    is = typed ∙ p.type;
    legal = constant_legal p.constant context (specification f);
    own = own_type (object_of p.constant);
    typed = subst (λ e. HasTypes program (LawfulBy (is_lawful (specification f) routines)) r rs e (one (own_type (object_of p.constant)))) (sym runs) (p.constant, p.given, refl);
    fit = subst (λ t. fits (own_type (object_of p.constant)) t ≡ true) (sym (constant_still p.constant r.given)) (fits_itself (own_type (object_of p.constant)));
  }

  of_value : (n : ℕ) (name : Identifier) (c : Constant) (v : Value) → settled f.scope c ≡ v → value_settled f.scope c ≡ v → ValueAt f routines r home context n v → expression_of (place f program routines s r home context rs) n name no_actuals (is_equate c) ≡ constant_expression (place f program routines s r home context rs) (settled f.scope c) → NameTyped n name (is_equate c)
  of_value n name c (settled_constant k) unfolded is stands runs = record {
    type = own_type (object_of k);
    is = ap (value_type f n) is ∙ ap (λ t. Some t) (constant_type_is k);
    legal = constant_legal k context (specification f);
    own = own_type (object_of k);
    typed = subst (λ e. HasTypes program (LawfulBy (is_lawful (specification f) routines)) r rs e (one (own_type (object_of k)))) (sym (runs ∙ ap (constant_expression (place f program routines s r home context rs)) unfolded)) refl;
    fit = subst (λ t. fits (own_type (object_of k)) t ≡ true) (sym (constant_still k r.given)) (fits_itself (own_type (object_of k)));
  }
  of_value n name c (settled_parameter k) unfolded is stands runs = of_parameter n k name (is_equate c) (ap (value_type f n) is) (runs ∙ ap (constant_expression (place f program routines s r home context rs)) unfolded) stands
  of_value n name c (settled_type t) unfolded is stands runs = absurd stands
  of_value n name c unsettled unfolded is stands runs = absurd stands

  -- a routine of the cluster round the text, by its name alone
  of_routine : (n : ℕ) (name : Identifier) (t : CluType) → Here n kind.Name (a_name n name) → meaning f n name ≡ is_routine_of_cluster → home ≡ Some t → Legal t → NameTyped n name is_routine_of_cluster
  of_routine n name t x m is l =
      let own_is : headings.own_type f n ≡ Some t = x.stands.inside ∙ is in
      let found : own_found f n name ≡ operation_found f n t name = ap (option_and_then (λ t. operation_found f n t name)) own_is in
      let e : operations_at f n ≡ operation_found f n t name ∷ [] = ap (λ k. map (λ i. i.invoked) (invocations_by f k n) ++ operations_by f k n) x.stands.kind ∙ ap (λ w. named_routine f (is_object_wanted w) (item f n).expression) x.wants
      ∙ ap (named_routine f true) x.is ∙ ap (own_routine f n name) m ∙ ap (λ o. o ∷ []) found in
      let y = only_runs n kind.Name x.stands t name l e in
      record {
        type = y.type;
        is = ap found_type found ∙ y.is;
        legal = y.legal;
        own = y.runs.heading;
        typed = subst (λ h. HasTypes program (LawfulBy (is_lawful (specification f) routines)) r rs (routine_here (place f program routines s r home context rs) h name) (one y.runs.heading)) (sym is)
            (record { heading = y.runs.heading; there = y.runs.there; may = y.runs.may; law = y.runs.law; is = refl });
        fit = y.runs.fit;
      }

  name_typed : (n : ℕ) (name : Identifier) → Here n kind.Name (a_name n name) → (m : Meaning) → meaning f n name ≡ m → MeaningAt f routines r home context n name m → Raises m → NameTyped n name m
  name_typed n name x (is_local t) e p raise = of_variable n name (is_local t) t (local (number_of f.scope n name)) refl refl refl p raise
  name_typed n name x (is_own_of_routine t) e p raise = of_variable n name (is_own_of_routine t) t (own_of_routine (number_of f.scope n name)) refl refl refl p raise
  name_typed n name x (is_own_of_cluster t) e p raise = of_variable n name (is_own_of_cluster t) t (own_of_cluster (number_of f.scope n name)) refl refl refl p raise
  name_typed n name x (is_equate c) e p raise = of_value n name c p.value p.unfolded p.is p.stands
      (ap (λ m. constant_expression (place f program routines s r home context rs) (value_of_meaning f.scope (settled f.scope) name no_actuals m)) e)
  name_typed n name x (is_constant_parameter k) e p raise = of_parameter n k name (is_constant_parameter k) refl
      (ap (λ m. constant_expression (place f program routines s r home context rs) (value_of_meaning f.scope (settled f.scope) name no_actuals m)) e) p
  name_typed n name x is_routine_of_cluster e p raise = of_routine n name p.0 x e p.1 p.2
  name_typed n name x is_type_set e p raise = absurd p
  name_typed n name x (is_type_parameter k) e p raise = absurd p
  name_typed n name x is_module e p raise = absurd p

  pub a_name_typed : (n : ℕ) (name : Identifier) → Here n kind.Name (a_name n name) → MeaningAt f routines r home context n name (meaning f n name) → MayRaise r.given (raising.by_expression f (a_name n name)) rs → Gives (a_name n name)
  a_name_typed n name x p raise =
      let y = name_typed n name x (meaning f n name) refl p raise in
      record { type = y.type; is = y.is; legal = y.legal; own = y.own; typed = y.typed; fit = y.fit }
