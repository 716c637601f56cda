-- A rule is violated at nodes of its kinds alone: the least of all rules that a node violates is the least of those of its kind.
use Rattle.std.proofs.Common.{◌≡◌, ◌∙◌, ℕ, zero, suc, ◌+◌, ◌==◌, ◌&&◌, ◌||◌, nat_lt, not, Bool, true, false, List, [], ◌∷◌, ◌++◌, length, map, flat_map, Option, Some, None, refl, sym, ap}
use Rattle.std.specs.Prelude.{slice_get, is_none, bytes_eq}
use Rattle.std.specs.List.{list_any}
use Rattle.std.proofs.lemmas.Bool.{true≢false, or_from, and_right}
use Rattle.clu_base.specs.declared.rules.Rule.{Rule}
use Rattle.clu_base.specs.declared.rules.Rule.TheVariants as rule
use Rattle.clu_tree.specs.declared.node.Node.{Node}
use Rattle.clu_tree.specs.declared.node.NodeKind.{NodeKind}
use Rattle.clu_tree.specs.declared.node.NodeKind.TheVariants as kind
use Rattle.clu_syntax.specs.Kinds.{is_expression, is_type, kind_of}
use Rattle.clu_syntax.specs.Nodes.{constant_of, item_at, item_to, item_with, before}
use Rattle.clu_syntax.specs.Roles.{has_no_name}
use Rattle.clu_syntax.specs.Slots.{is_right_side}
use Rattle.clu_syntax.specs.Splits.{first_name, last_name, is_of}
use Rattle.clu_syntax.specs.Syntax.{Constant, a_type, TypeExpression}
use Rattle.clu_meaning.specs.Scoping.{Scope}
use Rattle.clu_meaning.specs.Settling.{Value}
use Rattle.clu_checking.specs.Settled.{value_settled}
use Rattle.clu_checking.specs.Files.{File, item, kind_in, is_kind, is_kind_at, stands_in, parent, names, node_names, round, routine_round, below, is_known}
use Rattle.clu_checking.specs.NameRules.{is_long, has_bad_literal, v4, names_used, names_defined, stands_twice, is_redefined, v6_by, disagrees_at, leads_to_circle, stands_before, names_argument}
use Rattle.clu_checking.specs.Equates.{is_circular_at, equates_at, names_unfolded}
use Rattle.clu_checking.specs.ConstantRules.{is_no_constant, is_constant_wanted, is_neither, is_rep_equate, is_no_type_side, is_bad_rep, is_long_type, is_long_constant, is_cvt, is_too_long, is_no_type, is_real, has_bad_actuals, is_illegal_parameter, v31_at, has_bad_constant, has_bad_type, v8, v9}
use Rattle.clu_checking.specs.Wanted.{wanted, wants_type, named_as}
use Rattle.clu_checking.specs.Operations.{Asked, Found}
use Rattle.clu_checking.specs.Invocations.{Invocation, invocations, invocations_by, operations_by, asks_of, asks_of_name}
use Rattle.clu_checking.specs.ExpressionRules.{has_other_count, has_other_types, has_not_one_result, invokes_iterator, is_one_wanted, is_loop_call, is_misfit, is_no_object, v17_at, is_broken, v32_at}
use Rattle.clu_checking.specs.StatementRules.{bindings_in, v15_in, v16_in, v21_in, v22_in, is_in_procedure, v30_in, v36_in}
use Rattle.clu_checking.specs.ExceptionRules.{v23_in, v25_in, arm_for, v26_in}
use Rattle.clu_checking.specs.ModuleRules.{v33_in, size_of}
use Rattle.clu_checking.specs.Rules.{violates, least, all_rules}
use Rattle.clu_type_rules.specs.Asked.{is_asked}

-- ---- values of types are no constants

no_long_type : (scope : Scope) (t : TypeExpression) → is_long_constant (value_settled scope (a_type t)) ≡ false
no_long_type scope t = refl

type_is : (nodes : List Node) (n : ℕ) (its : Option Node) → slice_get nodes n ≡ its → is_type (kind_of its) ≡ true → (item_at nodes n).constant ≡ a_type (item_at nodes n).type
unfolding item_to
type_is nodes n None at e = absurd (true≢false (sym e))
type_is nodes n (Some its) at e =
    ap (λ (o : Option Node). (item_with (before n (item_to nodes n)) nodes n o).constant) at
    ∙ ap (λ (b : Bool). constant_of b (item_with (before n (item_to nodes n)) nodes n (Some its)).expression (item_with (before n (item_to nodes n)) nodes n (Some its)).type) e
    ∙ ap (λ (o : Option Node). a_type (item_with (before n (item_to nodes n)) nodes n o).type) (sym at)

module _ (f : File) (bad : ℕ → Bool) (n : ℕ) where
  abbrev defined_twice : NodeKind → Bool
  defined_twice k = stands_twice (names_defined f k n) || list_any (is_redefined f n) (names_defined f k n) || v6_by f k n

  abbrev operations_by_kind : NodeKind → List (Option Found)
  operations_by_kind k = map (λ (i : Invocation). i.invoked) (invocations_by f k n) ++ operations_by f k n

  abbrev asks : NodeKind → List Asked
  asks k = flat_map (asks_of f) (operations_by_kind k) ++ flat_map (asks_of_name f) (named_as f k (wanted f n) n)

  abbrev one_wanted : NodeKind → Bool
  one_wanted k = is_one_wanted k (wanted f n) && list_any has_not_one_result (invocations_by f k n)

  abbrev not_one : NodeKind → Bool
  not_one k = one_wanted k || is_no_object f k n

  v5_elsewhere : (k : NodeKind) → is_asked k rule.UnknownName ≡ false → (list_any (λ name. not (is_known f n name)) (names_used f k n)) ≡ false
  v5_elsewhere kind.Restrict e = absurd (true≢false e)
  v5_elsewhere kind.TypeSet e = absurd (true≢false e)
  v5_elsewhere kind.NameT e = absurd (true≢false e)
  v5_elsewhere kind.Assign e = absurd (true≢false e)
  v5_elsewhere kind.For e = absurd (true≢false e)
  v5_elsewhere kind.Name e = absurd (true≢false e)
  v5_elsewhere _ e = refl

  v6_elsewhere : (k : NodeKind) → is_asked k rule.DefinedTwice ≡ false → (defined_twice k || disagrees_at f bad k n) ≡ false
  v6_elsewhere kind.Routine e = absurd (true≢false e)
  v6_elsewhere kind.Cluster e = absurd (true≢false e)
  v6_elsewhere kind.Parm e = absurd (true≢false e)
  v6_elsewhere kind.Exc e = absurd (true≢false e)
  v6_elsewhere kind.Restrict e = absurd (true≢false e)
  v6_elsewhere kind.Oper e = absurd (true≢false e)
  v6_elsewhere kind.TypeSet e = absurd (true≢false e)
  v6_elsewhere kind.Equate e = absurd (true≢false e)
  v6_elsewhere kind.Own e = absurd (true≢false e)
  v6_elsewhere kind.Decl e = absurd (true≢false e)
  v6_elsewhere kind.Init e = absurd (true≢false e)
  v6_elsewhere kind.TagArm e = absurd (true≢false e)
  v6_elsewhere kind.Others e = absurd (true≢false e)
  v6_elsewhere _ e = refl

  v10_elsewhere : (k : NodeKind) → is_asked k rule.Real ≡ false → (is_real f k n) ≡ false
  v10_elsewhere kind.Simple e = absurd (true≢false e)
  v10_elsewhere kind.Literal e = absurd (true≢false e)
  v10_elsewhere _ e = refl

  v11_elsewhere : (k : NodeKind) → is_asked k rule.NoOperation ≡ false → (list_any is_none (operations_by_kind k)) ≡ false
  v11_elsewhere kind.SetField e = absurd (true≢false e)
  v11_elsewhere kind.SetIndex e = absurd (true≢false e)
  v11_elsewhere kind.Infix e = absurd (true≢false e)
  v11_elsewhere kind.Prefix e = absurd (true≢false e)
  v11_elsewhere kind.Name e = absurd (true≢false e)
  v11_elsewhere kind.Index e = absurd (true≢false e)
  v11_elsewhere kind.Get e = absurd (true≢false e)
  v11_elsewhere kind.Call e = absurd (true≢false e)
  v11_elsewhere kind.OperOf e = absurd (true≢false e)
  v11_elsewhere _ e = refl

  v12_elsewhere : (k : NodeKind) → is_asked k rule.ArgumentCount ≡ false → (list_any has_other_count (invocations_by f k n)) ≡ false
  v12_elsewhere kind.SetField e = absurd (true≢false e)
  v12_elsewhere kind.SetIndex e = absurd (true≢false e)
  v12_elsewhere kind.Infix e = absurd (true≢false e)
  v12_elsewhere kind.Prefix e = absurd (true≢false e)
  v12_elsewhere kind.Index e = absurd (true≢false e)
  v12_elsewhere kind.Get e = absurd (true≢false e)
  v12_elsewhere kind.Call e = absurd (true≢false e)
  v12_elsewhere _ e = refl

  v13_elsewhere : (k : NodeKind) → is_asked k rule.ArgumentType ≡ false → (list_any has_other_types (invocations_by f k n) || is_misfit f k n) ≡ false
  v13_elsewhere kind.SetField e = absurd (true≢false e)
  v13_elsewhere kind.SetIndex e = absurd (true≢false e)
  v13_elsewhere kind.Infix e = absurd (true≢false e)
  v13_elsewhere kind.Prefix e = absurd (true≢false e)
  v13_elsewhere kind.Index e = absurd (true≢false e)
  v13_elsewhere kind.Get e = absurd (true≢false e)
  v13_elsewhere kind.Call e = absurd (true≢false e)
  v13_elsewhere kind.Fields e = absurd (true≢false e)
  v13_elsewhere kind.Elems e = absurd (true≢false e)
  v13_elsewhere _ e = refl

  v14_elsewhere : (k : NodeKind) → is_asked k rule.ResultCount ≡ false → (not_one k || list_any (λ b. not (length b.variables == length b.objects)) (bindings_in f k n)) ≡ false
  v14_elsewhere kind.Own e = absurd (true≢false e)
  v14_elsewhere kind.Simple e = absurd (true≢false e)
  v14_elsewhere kind.ListT e = absurd (true≢false e)
  v14_elsewhere kind.FieldsT e = absurd (true≢false e)
  v14_elsewhere kind.RoutineT e = absurd (true≢false e)
  v14_elsewhere kind.NameT e = absurd (true≢false e)
  v14_elsewhere kind.Init e = absurd (true≢false e)
  v14_elsewhere kind.Assign e = absurd (true≢false e)
  v14_elsewhere kind.For e = absurd (true≢false e)
  v14_elsewhere kind.Infix e = absurd (true≢false e)
  v14_elsewhere kind.Prefix e = absurd (true≢false e)
  v14_elsewhere kind.Name e = absurd (true≢false e)
  v14_elsewhere kind.Index e = absurd (true≢false e)
  v14_elsewhere kind.Get e = absurd (true≢false e)
  v14_elsewhere kind.Call e = absurd (true≢false e)
  v14_elsewhere kind.SetField e = refl
  v14_elsewhere kind.SetIndex e = refl
  v14_elsewhere k e = or_from (not_one k) false (or_from (one_wanted k) false (and_right (is_one_wanted k (wanted f n)) false refl) refl) refl

  v15_elsewhere : (k : NodeKind) → is_asked k rule.AssignType ≡ false → (v15_in f k n) ≡ false
  v15_elsewhere kind.Own e = absurd (true≢false e)
  v15_elsewhere kind.Init e = absurd (true≢false e)
  v15_elsewhere kind.Assign e = absurd (true≢false e)
  v15_elsewhere kind.For e = absurd (true≢false e)
  v15_elsewhere kind.TagArm e = absurd (true≢false e)
  v15_elsewhere _ e = refl

  v16_elsewhere : (k : NodeKind) → is_asked k rule.NotBool ≡ false → (v16_in f k n) ≡ false
  v16_elsewhere kind.While e = absurd (true≢false e)
  v16_elsewhere kind.If e = absurd (true≢false e)
  v16_elsewhere kind.Infix e = absurd (true≢false e)
  v16_elsewhere kind.Prefix e = absurd (true≢false e)
  v16_elsewhere kind.Get e = absurd (true≢false e)
  v16_elsewhere kind.Call e = absurd (true≢false e)
  v16_elsewhere _ e = refl

  v17_elsewhere : (k : NodeKind) → is_asked k rule.Selectors ≡ false → (v17_at f k n) ≡ false
  v17_elsewhere kind.FieldT e = absurd (true≢false e)
  v17_elsewhere kind.Fields e = absurd (true≢false e)
  v17_elsewhere kind.FieldE e = absurd (true≢false e)
  v17_elsewhere kind.Elems e = absurd (true≢false e)
  v17_elsewhere _ e = refl

  v18_elsewhere : (k : NodeKind) → is_asked k rule.WhereNotMet ≡ false → (list_any (λ a. not a.in_set && is_broken f n a) (asks k)) ≡ false
  v18_elsewhere kind.NameT e = absurd (true≢false e)
  v18_elsewhere kind.SetField e = absurd (true≢false e)
  v18_elsewhere kind.SetIndex e = absurd (true≢false e)
  v18_elsewhere kind.Infix e = absurd (true≢false e)
  v18_elsewhere kind.Prefix e = absurd (true≢false e)
  v18_elsewhere kind.Name e = absurd (true≢false e)
  v18_elsewhere kind.Index e = absurd (true≢false e)
  v18_elsewhere kind.Get e = absurd (true≢false e)
  v18_elsewhere kind.Call e = absurd (true≢false e)
  v18_elsewhere kind.OperOf e = absurd (true≢false e)
  v18_elsewhere _ e = refl

  v19_elsewhere : (k : NodeKind) → is_asked k rule.ParameterKind ≡ false → (list_any (has_bad_actuals f) (named_as f k (wanted f n) n) || is_illegal_parameter f k n) ≡ false
  v19_elsewhere kind.Parm e = absurd (true≢false e)
  v19_elsewhere kind.NameT e = absurd (true≢false e)
  v19_elsewhere kind.Name e = absurd (true≢false e)
  v19_elsewhere kind.Index e = absurd (true≢false e)
  v19_elsewhere _ e = refl

  v20_elsewhere : (k : NodeKind) → is_asked k rule.NotInTypeSet ≡ false → (list_any (λ a. a.in_set && is_broken f n a) (asks k)) ≡ false
  v20_elsewhere kind.NameT e = absurd (true≢false e)
  v20_elsewhere kind.SetField e = absurd (true≢false e)
  v20_elsewhere kind.SetIndex e = absurd (true≢false e)
  v20_elsewhere kind.Infix e = absurd (true≢false e)
  v20_elsewhere kind.Prefix e = absurd (true≢false e)
  v20_elsewhere kind.Name e = absurd (true≢false e)
  v20_elsewhere kind.Index e = absurd (true≢false e)
  v20_elsewhere kind.Get e = absurd (true≢false e)
  v20_elsewhere kind.Call e = absurd (true≢false e)
  v20_elsewhere kind.OperOf e = absurd (true≢false e)
  v20_elsewhere _ e = refl

  v21_elsewhere : (k : NodeKind) → is_asked k rule.NotTagged ≡ false → (v21_in f k n) ≡ false
  v21_elsewhere kind.Tagcase e = absurd (true≢false e)
  v21_elsewhere _ e = refl

  v22_elsewhere : (k : NodeKind) → is_asked k rule.TagMissingOrTwice ≡ false → (v22_in f k n) ≡ false
  v22_elsewhere kind.Tagcase e = absurd (true≢false e)
  v22_elsewhere kind.TagArm e = absurd (true≢false e)
  v22_elsewhere _ e = refl

  v23_elsewhere : (k : NodeKind) → is_asked k rule.ArmTypes ≡ false → (v23_in f k n) ≡ false
  v23_elsewhere kind.When e = absurd (true≢false e)
  v23_elsewhere kind.Others e = absurd (true≢false e)
  v23_elsewhere _ e = refl

  v24_elsewhere : (k : NodeKind) → is_asked k rule.ArmTwice ≡ false → (is_of kind.When k && stands_before f kind.When n) ≡ false
  v24_elsewhere kind.When e = absurd (true≢false e)
  v24_elsewhere _ e = refl

  v25_elsewhere : (k : NodeKind) → is_asked k rule.SignalNotListed ≡ false → (v25_in f k n) ≡ false
  v25_elsewhere kind.Signal e = absurd (true≢false e)
  v25_elsewhere kind.Resignal e = absurd (true≢false e)
  v25_elsewhere _ e = refl

  v26_elsewhere : (k : NodeKind) → is_asked k rule.SignalTypes ≡ false → (v26_in f bad k n) ≡ false
  v26_elsewhere kind.Exc e = absurd (true≢false e)
  v26_elsewhere kind.Signal e = absurd (true≢false e)
  v26_elsewhere kind.Exit e = absurd (true≢false e)
  v26_elsewhere kind.Resignal e = absurd (true≢false e)
  v26_elsewhere _ e = refl

  v27_elsewhere : (k : NodeKind) → is_asked k rule.ExitNoArm ≡ false → (is_of kind.Exit k && is_none (arm_for f n (first_name (names f n)))) ≡ false
  v27_elsewhere kind.Exit e = absurd (true≢false e)
  v27_elsewhere _ e = refl

  v28_elsewhere : (k : NodeKind) → is_asked k rule.NotInLoop ≡ false → ((is_of kind.Break k || is_of kind.Continue k) && not (round f n).in_loop) ≡ false
  v28_elsewhere kind.Break e = absurd (true≢false e)
  v28_elsewhere kind.Continue e = absurd (true≢false e)
  v28_elsewhere _ e = refl

  v29_elsewhere : (k : NodeKind) → is_asked k rule.NotInIterator ≡ false → (is_of kind.Yield k && is_in_procedure f (routine_round f n)) ≡ false
  v29_elsewhere kind.Yield e = absurd (true≢false e)
  v29_elsewhere _ e = refl

  v30_elsewhere : (k : NodeKind) → is_asked k rule.ReturnValues ≡ false → (v30_in f k n) ≡ false
  v30_elsewhere kind.Return e = absurd (true≢false e)
  v30_elsewhere kind.Yield e = absurd (true≢false e)
  v30_elsewhere _ e = refl

  v31_elsewhere : (k : NodeKind) → is_asked k rule.CvtPlace ≡ false → (v31_at f k n) ≡ false
  v31_elsewhere kind.Cluster e = absurd (true≢false e)
  v31_elsewhere kind.Simple e = absurd (true≢false e)
  v31_elsewhere _ e = refl

  v32_elsewhere : (k : NodeKind) → is_asked k rule.UpDown ≡ false → (v32_at f k n) ≡ false
  v32_elsewhere kind.Up e = absurd (true≢false e)
  v32_elsewhere kind.Down e = absurd (true≢false e)
  v32_elsewhere _ e = refl

  v33_elsewhere : (k : NodeKind) → is_asked k rule.ExportMissing ≡ false → (v33_in f k n) ≡ false
  v33_elsewhere kind.Cluster e = absurd (true≢false e)
  v33_elsewhere _ e = refl

  v34_elsewhere : (k : NodeKind) → is_asked k rule.EndName ≡ false → ((is_of kind.Routine k || is_of kind.Cluster k) && not (bytes_eq (first_name (names f n)) (last_name (names f n)))) ≡ false
  v34_elsewhere kind.Routine e = absurd (true≢false e)
  v34_elsewhere kind.Cluster e = absurd (true≢false e)
  v34_elsewhere _ e = refl

  v35_elsewhere : (k : NodeKind) → is_asked k rule.RoutineTooLarge ≡ false → (nat_lt 4000 (size_of f k n)) ≡ false
  v35_elsewhere kind.Routine e = absurd (true≢false e)
  v35_elsewhere kind.Cluster e = absurd (true≢false e)
  v35_elsewhere _ e = refl

  v36_elsewhere : (k : NodeKind) → kind_in f n ≡ k → is_asked k rule.IteratorUse ≡ false → v36_in f k n ≡ false
  v36_elsewhere kind.SetField is e = absurd (true≢false e)
  v36_elsewhere kind.SetIndex is e = absurd (true≢false e)
  v36_elsewhere kind.For is e = absurd (true≢false e)
  v36_elsewhere kind.Infix is e = absurd (true≢false e)
  v36_elsewhere kind.Prefix is e = absurd (true≢false e)
  v36_elsewhere kind.Index is e = absurd (true≢false e)
  v36_elsewhere kind.Get is e = absurd (true≢false e)
  v36_elsewhere kind.Call is e = absurd (true≢false e)
  v36_elsewhere k is e = and_right (not (is_loop_call (wanted f n))) (list_any invokes_iterator (invocations f n)) (ap (λ (j : NodeKind). list_any invokes_iterator (invocations_by f j n)) is)

  v37_elsewhere : (k : NodeKind) → is_asked k rule.OwnPlace ≡ false → (is_of kind.Own k && list_any (names_argument f) (below f n)) ≡ false
  v37_elsewhere kind.Own e = absurd (true≢false e)
  v37_elsewhere _ e = refl

  v7_elsewhere : (k : NodeKind) → kind_in f n ≡ k → is_asked k rule.CircularEquate ≡ false → leads_to_circle f k n ≡ false
  v7_elsewhere kind.Restrict is e = absurd (true≢false e)
  v7_elsewhere kind.Simple is e = absurd (true≢false e)
  v7_elsewhere kind.NameT is e = absurd (true≢false e)
  v7_elsewhere kind.Name is e = absurd (true≢false e)
  v7_elsewhere _ is e = ap (λ (j : NodeKind). list_any (is_circular_at f) (equates_at f n (names_unfolded f j n))) is

  module _ (none : is_asked (kind_in f n) rule.LiteralRange ≡ false → names f n ≡ []) (right : stands_in f kind.Equate n ≡ true → is_right_side (kind_in f n) ≡ true) where
    literal_elsewhere : (k : NodeKind) → is_asked k rule.LiteralRange ≡ false → has_bad_literal f k n ≡ false
    literal_elsewhere kind.Literal e = absurd (true≢false e)
    literal_elsewhere _ e = refl

    v4_elsewhere : is_asked (kind_in f n) rule.LiteralRange ≡ false → v4 f n ≡ false
    v4_elsewhere e = or_from (list_any is_long (names f n)) (has_bad_literal f (kind_in f n) n) (ap (list_any is_long) (none e)) (literal_elsewhere (kind_in f n) e)

    -- what stands in an equate is a constant or a type set
    no_side : (k : NodeKind) → kind_in f n ≡ k → is_right_side k ≡ false → stands_in f kind.Equate n ≡ false
    no_side k is e = by (stands_in f kind.Equate n) refl
      where
        by : (b : Bool) → stands_in f kind.Equate n ≡ b → b ≡ false
        by false so = refl
        by true so = absurd (true≢false (sym (right so) ∙ ap is_right_side is ∙ e))

    too_long_not : (test : Value → Bool) → stands_in f kind.Equate n ≡ false → is_too_long f test n ≡ false
    too_long_not test e = ap (λ (b : Bool). (b && not (is_kind f kind.TypeSet n)) && (not (is_cvt (item f n).constant) && test (value_settled f.scope (item f n).constant))) e

    rep_not : (o : Option ℕ) → is_kind_at f kind.Equate o ≡ false → is_rep_equate f o ≡ false
    rep_not None e = refl
    rep_not (Some p) e = ap (λ (b : Bool). b && has_no_name (names f p)) e

    neither_not : (k : NodeKind) → is_no_constant f k n ≡ false → (is_constant_wanted (wanted f n) && is_no_constant f k n) ≡ false
    neither_not k e = and_right (is_constant_wanted (wanted f n)) (is_no_constant f k n) e

    abbrev by_neither : NodeKind → Bool → Bool
    by_neither k b = (is_constant_wanted (wanted f n) && is_no_constant f k n) && b

    -- V8: neither a whole constant, nor a name, nor too long
    v8_of : (k : NodeKind) → is_no_constant f k n ≡ false → has_bad_constant f bad k n ≡ false → is_too_long f is_long_constant n ≡ false → (by_neither k (not (wants_type f n)) || has_bad_constant f bad k n || is_too_long f is_long_constant n) ≡ false
    v8_of k none its long =
        or_from (by_neither k (not (wants_type f n)) || has_bad_constant f bad k n) (is_too_long f is_long_constant n)
        (or_from (by_neither k (not (wants_type f n))) (has_bad_constant f bad k n) (ap (λ (b : Bool). b && not (wants_type f n)) (neither_not k none)) its)
        long

    abbrev wrong_rep : NodeKind → Bool
    wrong_rep k = by_neither k (wants_type f n) || (is_rep_equate f (parent f n) && is_no_type_side f k n)

    -- V9: nor a type
    v9_of : (k : NodeKind) → is_no_constant f k n ≡ false → is_no_type f k n ≡ false → has_bad_type f bad k n ≡ false → stands_in f kind.Equate n ≡ false →
        (by_neither k (wants_type f n) || (is_rep_equate f (parent f n) && is_no_type_side f k n) || is_no_type f k n || has_bad_type f bad k n || is_too_long f is_long_type n) ≡ false
    v9_of k none type its side =
        or_from (wrong_rep k || is_no_type f k n || has_bad_type f bad k n) (is_too_long f is_long_type n)
        (or_from (wrong_rep k || is_no_type f k n) (has_bad_type f bad k n)
        (or_from (wrong_rep k) (is_no_type f k n)
        (or_from (by_neither k (wants_type f n)) (is_rep_equate f (parent f n) && is_no_type_side f k n)
        (ap (λ (b : Bool). b && wants_type f n) (neither_not k none))
        (ap (λ (b : Bool). b && is_no_type_side f k n) (rep_not (parent f n) side)))
        type)
        its)
        (too_long_not is_long_type side)

    type_long : is_type (kind_in f n) ≡ true → is_too_long f is_long_constant n ≡ false
    type_long e = and_right (stands_in f kind.Equate n && not (is_kind f kind.TypeSet n)) (not (is_cvt (item f n).constant) && is_long_constant (value_settled f.scope (item f n).constant))
        (and_right (not (is_cvt (item f n).constant)) (is_long_constant (value_settled f.scope (item f n).constant))
        (ap (λ (c : Constant). is_long_constant (value_settled f.scope c)) (type_is f.nodes n (slice_get f.nodes n) refl e) ∙ no_long_type f.scope (item f n).type))

    set_long : is_kind f kind.TypeSet n ≡ true → is_too_long f is_long_constant n ≡ false
    set_long e = ap (λ (b : Bool). b && (not (is_cvt (item f n).constant) && is_long_constant (value_settled f.scope (item f n).constant))) (and_right (stands_in f kind.Equate n) (not (is_kind f kind.TypeSet n)) (ap not e))

    v8_elsewhere : (k : NodeKind) → kind_in f n ≡ k → is_asked k rule.NotConstant ≡ false → (by_neither k (not (wants_type f n)) || has_bad_constant f bad k n || is_too_long f is_long_constant n) ≡ false
    v8_elsewhere kind.Infix is e = absurd (true≢false e)
    v8_elsewhere kind.Prefix is e = absurd (true≢false e)
    v8_elsewhere kind.Paren is e = absurd (true≢false e)
    v8_elsewhere kind.Literal is e = absurd (true≢false e)
    v8_elsewhere kind.Name is e = absurd (true≢false e)
    v8_elsewhere kind.Index is e = absurd (true≢false e)
    v8_elsewhere kind.Get is e = absurd (true≢false e)
    v8_elsewhere kind.Call is e = absurd (true≢false e)
    v8_elsewhere kind.Fields is e = absurd (true≢false e)
    v8_elsewhere kind.Elems is e = absurd (true≢false e)
    v8_elsewhere kind.OperOf is e = absurd (true≢false e)
    v8_elsewhere kind.Force is e = absurd (true≢false e)
    v8_elsewhere kind.Up is e = absurd (true≢false e)
    v8_elsewhere kind.Down is e = absurd (true≢false e)
    v8_elsewhere kind.Simple is e = v8_of kind.Simple refl refl (type_long (ap is_type is))
    v8_elsewhere kind.ListT is e = v8_of kind.ListT refl refl (type_long (ap is_type is))
    v8_elsewhere kind.FieldsT is e = v8_of kind.FieldsT refl refl (type_long (ap is_type is))
    v8_elsewhere kind.RoutineT is e = v8_of kind.RoutineT refl refl (type_long (ap is_type is))
    v8_elsewhere kind.NameT is e = v8_of kind.NameT refl refl (type_long (ap is_type is))
    v8_elsewhere kind.TypeSet is e = v8_of kind.TypeSet refl refl (set_long (ap (is_of kind.TypeSet) is))
    v8_elsewhere k is e = v8_of k refl refl (too_long_not is_long_constant (no_side k is refl))

    v9_elsewhere : (k : NodeKind) → kind_in f n ≡ k → is_asked k rule.NotType ≡ false →
        (by_neither k (wants_type f n) || (is_rep_equate f (parent f n) && is_no_type_side f k n) || is_no_type f k n || has_bad_type f bad k n || is_too_long f is_long_type n) ≡ false
    v9_elsewhere kind.Restrict is e = absurd (true≢false e)
    v9_elsewhere kind.TypeSet is e = absurd (true≢false e)
    v9_elsewhere kind.Simple is e = absurd (true≢false e)
    v9_elsewhere kind.ListT is e = absurd (true≢false e)
    v9_elsewhere kind.FieldsT is e = absurd (true≢false e)
    v9_elsewhere kind.RoutineT is e = absurd (true≢false e)
    v9_elsewhere kind.NameT is e = absurd (true≢false e)
    v9_elsewhere kind.Infix is e = absurd (true≢false e)
    v9_elsewhere kind.Prefix is e = absurd (true≢false e)
    v9_elsewhere kind.Paren is e = absurd (true≢false e)
    v9_elsewhere kind.Literal is e = absurd (true≢false e)
    v9_elsewhere kind.Name is e = absurd (true≢false e)
    v9_elsewhere kind.Index is e = absurd (true≢false e)
    v9_elsewhere kind.Get is e = absurd (true≢false e)
    v9_elsewhere kind.Call is e = absurd (true≢false e)
    v9_elsewhere kind.Fields is e = absurd (true≢false e)
    v9_elsewhere kind.Elems is e = absurd (true≢false e)
    v9_elsewhere kind.OperOf is e = absurd (true≢false e)
    v9_elsewhere kind.Force is e = absurd (true≢false e)
    v9_elsewhere kind.Up is e = absurd (true≢false e)
    v9_elsewhere kind.Down is e = absurd (true≢false e)
    v9_elsewhere k is e = v9_of k refl refl refl (no_side k is refl)

    pub elsewhere : (r : Rule) → is_asked (kind_in f n) r ≡ false → violates f bad n r ≡ false
    elsewhere rule.LiteralRange e = v4_elsewhere e
    elsewhere rule.NotConstant e = v8_elsewhere (kind_in f n) refl e
    elsewhere rule.NotType e = v9_elsewhere (kind_in f n) refl e
    elsewhere rule.CircularEquate e = v7_elsewhere (kind_in f n) refl e
    elsewhere rule.IteratorUse e = v36_elsewhere (kind_in f n) refl e
    elsewhere rule.UnknownName e = v5_elsewhere (kind_in f n) e
    elsewhere rule.DefinedTwice e = v6_elsewhere (kind_in f n) e
    elsewhere rule.Real e = v10_elsewhere (kind_in f n) e
    elsewhere rule.NoOperation e = v11_elsewhere (kind_in f n) e
    elsewhere rule.ArgumentCount e = v12_elsewhere (kind_in f n) e
    elsewhere rule.ArgumentType e = v13_elsewhere (kind_in f n) e
    elsewhere rule.ResultCount e = v14_elsewhere (kind_in f n) e
    elsewhere rule.AssignType e = v15_elsewhere (kind_in f n) e
    elsewhere rule.NotBool e = v16_elsewhere (kind_in f n) e
    elsewhere rule.Selectors e = v17_elsewhere (kind_in f n) e
    elsewhere rule.WhereNotMet e = v18_elsewhere (kind_in f n) e
    elsewhere rule.ParameterKind e = v19_elsewhere (kind_in f n) e
    elsewhere rule.NotInTypeSet e = v20_elsewhere (kind_in f n) e
    elsewhere rule.NotTagged e = v21_elsewhere (kind_in f n) e
    elsewhere rule.TagMissingOrTwice e = v22_elsewhere (kind_in f n) e
    elsewhere rule.ArmTypes e = v23_elsewhere (kind_in f n) e
    elsewhere rule.ArmTwice e = v24_elsewhere (kind_in f n) e
    elsewhere rule.SignalNotListed e = v25_elsewhere (kind_in f n) e
    elsewhere rule.SignalTypes e = v26_elsewhere (kind_in f n) e
    elsewhere rule.ExitNoArm e = v27_elsewhere (kind_in f n) e
    elsewhere rule.NotInLoop e = v28_elsewhere (kind_in f n) e
    elsewhere rule.NotInIterator e = v29_elsewhere (kind_in f n) e
    elsewhere rule.ReturnValues e = v30_elsewhere (kind_in f n) e
    elsewhere rule.CvtPlace e = v31_elsewhere (kind_in f n) e
    elsewhere rule.UpDown e = v32_elsewhere (kind_in f n) e
    elsewhere rule.ExportMissing e = v33_elsewhere (kind_in f n) e
    elsewhere rule.EndName e = v34_elsewhere (kind_in f n) e
    elsewhere rule.RoutineTooLarge e = v35_elsewhere (kind_in f n) e
    elsewhere rule.OwnPlace e = v37_elsewhere (kind_in f n) e
    elsewhere _ e = refl
