-- Routines of modules, by their names and with actuals, are well typed in each instance of the text that names them.
use Rattle.std.proofs.Common.{◌≡◌, ℕ, zero, suc, Bool, true, false, List, [], ◌∷◌, ◌++◌, map, slice_get, rules, Option, None, Some, refl, sym, ap, subst, ◌∙◌}
use Rattle.std.specs.Prelude.{◌&&◌, not, flat_map, if◌then◌else◌}
use Rattle.std.specs.List.{list_any}
use Rattle.std.specs.Option.{option_map, option_and_then}
use Rattle.std.proofs.lemmas.Bool.{and_parts, and_from, or_parts}
use denote.Enum.Bare.{sameb, same_true, true_same}
use Rattle.clu_tree.specs.declared.node.NodeKind.{NodeKind}
use Rattle.clu_types.specs.CluType.{CluType, null_type, bool_type, int_type, char_type, string_type, Actuals}
use Rattle.clu_types.specs.Substituted.{substituted, actuals_substituted}
use Rattle.clu_types.specs.declared.spec.ParamKind.{ParamKind}
use Rattle.clu_types.specs.declared.spec.ParamKind.TheVariants as param
use Rattle.clu_types.specs.contracts.spec.ParamKind.{the_type}
use Rattle.clu_layout.specs.Objects.{module_routine}
use Rattle.clu_syntax.specs.Syntax.{Identifier, Parameter, TypeExpression, Constants, no_constants, constant_and}
use Rattle.clu_meaning.specs.Settling.{Value, settled_type, settled_constant, settled_parameter, unsettled, with_actual, actuals_settled, type_settled}
use Rattle.clu_meaning.specs.Programs.{Program}
use Rattle.clu_meaning.specs.Binding.{Running}
use Rattle.clu_checking.specs.Settled.{value_settled}
use Rattle.clu_checking.specs.Specifications as specifications
use Rattle.clu_checking.specs.Specifications.{Form, Heading, Specification, demands_of}
use Rattle.clu_checking.specs.Files.{File, round, parameters_round, is_of_module}
use Rattle.clu_checking.specs.Headings.{kind_of_type, kind_unless, nth, types_in, legal_type, is_no_parameter_type, kind_of_parameter, kinds_in, parameter_type_of, parameter_type, specification}
use Rattle.clu_checking.specs.Operations.{Found, is_met, demanded, routine_found}
use Rattle.clu_checking.specs.Typing.{found_type, found_in, heading_in, module_found}
use Rattle.clu_checking.specs.Wanted.{kind_of_constant, same_kind, kinds_of, value_kind, kinds_fit, has_fitting_kinds}
use Rattle.clu_checking.specs.Invocations.{asks_by, asks_of_module, asks_of_name}
use Rattle.clu_checking.specs.ConstantRules.{is_routine_form, is_routine, is_module_routine, has_constants, has_bad_actuals}
use Rattle.laws_sound.specs.Sound.{LawfulBy}
use Rattle.laws_accepted.specs.Legal.{Context, context_of, is_kind, kind_of, is_of_constants, is_as, are_of_kinds, are_demands_met, is_instance, is_legal, actuals_legal, all_known}
use Rattle.laws_accepted.specs.Specified.{FormLegal}
use Rattle.laws_accepted.specs.Lawful.{Routines, is_lawful}
use Rattle.laws_accepted.specs.Instances.{context_at, AllMet, AsSpecified, Runs}
use Rattle.laws_accepted.specs.Standing.{NodeStands}
use Rattle.laws_accepted.proofs.OfKinds.{no, Kinds}
use Rattle.laws_accepted.proofs.Meeting.{some_is, none_some}
use Rattle.laws_accepted.proofs.Staying.{asked_legal}
use Rattle.laws_accepted.proofs.FoundRuns.{demands_met, module_runs}
use Rattle.laws_accepted.proofs.AtNodes.{any_parts}

-- the kinds of constants are those of their types
pub of_constants : (t : CluType) (k : ParamKind) → kind_of_type t ≡ Some k → is_of_constants k ≡ true
of_constants null_type k e = ap is_of_constants (sym (some_is e))
of_constants bool_type k e = ap is_of_constants (sym (some_is e))
of_constants int_type k e = ap is_of_constants (sym (some_is e))
of_constants char_type k e = ap is_of_constants (sym (some_is e))
of_constants string_type k e = ap is_of_constants (sym (some_is e))
of_constants _ k e = absurd (none_some e)

kinds_same : (a b : ParamKind) → sameb the_type a b ≡ true → a ≡ b
kinds_same a b h = same_true the_type (search rules) a b h

kind_from : (a b : ParamKind) → a ≡ b → is_kind a (Some b) ≡ true
kind_from a b e = true_same the_type a b e

-- ---- the kind of a parameter

module _ (f : File) where
  names_kinds : (t : Option TypeExpression) (names : List Identifier) (ks : Kinds) (ts : List (Option TypeExpression)) → ((i : ℕ) → slice_get ks i ≡ option_map (kind_of_parameter f) (slice_get ts i)) → (i : ℕ) →
      slice_get (map (λ name. kind_of_parameter f t) names ++ ks) i ≡ option_map (kind_of_parameter f) (slice_get (map (λ name. t) names ++ ts) i)
  names_kinds t [] ks ts h i = h i
  names_kinds t (name ∷ names) ks ts h zero = refl
  names_kinds t (name ∷ names) ks ts h (suc i) = names_kinds t names ks ts h i

  slice_kinds : (ps : List Parameter) (i : ℕ) → slice_get (kinds_in f ps) i ≡ option_map (kind_of_parameter f) (slice_get (types_in ps) i)
  slice_kinds [] i = refl
  slice_kinds (p ∷ ps) i = names_kinds p.type p.names (kinds_in f ps) (types_in ps) (slice_kinds ps) i

  kind_of_legal : (T : TypeExpression) (t : CluType) (b : Bool) → legal_type (type_settled f.scope T) (kind_unless b (kind_of_type (type_settled f.scope T))) ≡ Some t → kind_unless b (kind_of_type (type_settled f.scope T)) ≡ kind_of_type t
  kind_of_legal T t true e = absurd (none_some e)
  kind_of_legal T t false e = by (kind_of_type (type_settled f.scope T)) refl e
    where
      by : (o : Option ParamKind) → kind_of_type (type_settled f.scope T) ≡ o → legal_type (type_settled f.scope T) o ≡ Some t → kind_of_type (type_settled f.scope T) ≡ kind_of_type t
      by (Some k) is e = ap kind_of_type (some_is e)
      by None is e = absurd (none_some e)

  parameter_kind : (ps : List Parameter) (k : ℕ) (t : CluType) → parameter_type_of f (option_and_then (λ t. t) (nth (types_in ps) k)) ≡ Some t → kind_of (kinds_in f ps) k ≡ kind_of_type t
  parameter_kind ps zero t e = absurd (none_some e)
  parameter_kind ps (suc i) t e = ap (option_and_then (λ k. k)) (slice_kinds ps i) ∙ by (slice_get (types_in ps) i) e
    where
      by : (o : Option (Option TypeExpression)) → parameter_type_of f (option_and_then (λ t. t) o) ≡ Some t → option_and_then (λ k. k) (option_map (kind_of_parameter f) o) ≡ kind_of_type t
      by (Some (Some T)) e = kind_of_legal T t (is_no_parameter_type f T) e
      by (Some None) e = absurd (none_some e)
      by None e = absurd (none_some e)

  -- ---- actuals of the kinds that a module takes

  module _ (m : ℕ) where
    abbrev here : Kinds
    here = (context_at f m).kinds

    parameter_as : (k : ParamKind) (p : ℕ) (o : Option CluType) → parameter_type f m p ≡ o → same_kind (Some k) (option_and_then kind_of_type o) ≡ true → is_as (Some k) (kind_of (context_at f m).kinds p) ≡ true
    parameter_as k p (Some t) e h = by (kind_of_type t) refl h
      where
        by : (o : Option ParamKind) → kind_of_type t ≡ o → same_kind (Some k) o ≡ true → is_as (Some k) (kind_of (context_at f m).kinds p) ≡ true
        by (Some a) is h =
            let same : k ≡ a = kinds_same k a h in
            and_from (is_of_constants k) (is_kind k (kind_of (context_at f m).kinds p)) (subst (λ x. is_of_constants x ≡ true) (sym same) (of_constants t a is))
            (subst (λ o. is_kind k o ≡ true) (sym (parameter_kind (parameters_round f.nodes (round f m).unit) p t e ∙ is)) (kind_from k a same))
        by None is h = no h
    parameter_as k p None e h = no h

    with_kind : (k : ParamKind) (ks : Kinds) (v : Value) (xs : Actuals) → same_kind (Some k) (value_kind f m v) ≡ true → are_of_kinds (context_at f m).kinds ks xs ≡ true → are_of_kinds (context_at f m).kinds (Some k ∷ ks) (with_actual v xs) ≡ true
    with_kind k ks (settled_type t) xs h a = and_from (is_kind param.OfType (Some k)) (are_of_kinds (context_at f m).kinds ks xs) (kind_from param.OfType k (sym (kinds_same k param.OfType h))) a
    with_kind k ks (settled_constant c) xs h a = and_from (is_kind (kind_of_constant c) (Some k)) (are_of_kinds (context_at f m).kinds ks xs) (kind_from (kind_of_constant c) k (sym (kinds_same k (kind_of_constant c) h))) a
    with_kind k ks (settled_parameter p) xs h a = and_from (is_as (Some k) (kind_of (context_at f m).kinds p)) (are_of_kinds (context_at f m).kinds ks xs) (parameter_as k p (parameter_type f m p) refl h) a
    with_kind k ks unsettled xs h a = no h

    kinds_given : (ks : Kinds) (cs : Constants) → all_known ks ≡ true → kinds_fit f m ks cs ≡ true → are_of_kinds (context_at f m).kinds ks (actuals_settled f.scope cs) ≡ true
    kinds_given [] no_constants a h = refl
    kinds_given (Some k ∷ ks) (constant_and c cs) a h =
        let q = and_parts (same_kind (Some k) (value_kind f m (value_settled f.scope c))) (kinds_fit f m ks cs) h in
        with_kind k ks (value_settled f.scope c) (actuals_settled f.scope cs) q.0 (kinds_given ks cs a q.1)
    kinds_given (None ∷ ks) cs a h = no a
    kinds_given [] (constant_and c cs) a h = no h
    kinds_given (Some k ∷ ks) no_constants a h = no h

  -- ---- the routine of a module

  module _ (program : Program) (routines : Routines) (s : AsSpecified f program routines) (r : Running) (home : Option CluType) (context : Context) (n : ℕ) (k : NodeKind) (x : NodeStands f routines r home context n k) where
    pub record ModuleRuns (name : Identifier) (xs : Actuals) : Type 0 where
      pub type : CluType
      pub is : found_type (module_found f name xs) ≡ Some type
      pub legal : is_legal context (specification f) type ≡ true
      pub runs : Runs program (LawfulBy (is_lawful (specification f) routines)) r (module_routine name (actuals_substituted r.given xs)) (substituted r.given type)

    found_of : (form : Form) (sp : Specification) (xs : Actuals) → FormLegal (specification f) sp form → is_routine_form form ≡ true → (y : Found) × (found_in xs form ≡ Some y) × ((T : CluType) × (y.type ≡ Some T))
    found_of (specifications.of_routine h) sp xs l e = (routine_found xs h, refl, (substituted xs l.type, ap (option_map (substituted xs)) l.is))
    found_of (specifications.of_cluster ds hs) sp xs l e = no e

    -- a name at the node m, with actuals that the rules at the node n accept
    pub module_named : (m : ℕ) (name : Identifier) (cs : Constants) → context_at f m ≡ context → is_module_routine f m name ≡ true → all_known (kinds_of (specification f name)) ≡ true → actuals_legal context (specification f) (actuals_settled f.scope cs) ≡ true →
        list_any (has_bad_actuals f) (record { node = m; name = name; constants = cs } ∷ []) ≡ false → AllMet f n (flat_map (asks_of_name f) (record { node = m; name = name; constants = cs } ∷ [])) → ModuleRuns name (actuals_settled f.scope cs)
    module_named m name cs around routine known l bad asks = by (specification f name) refl (and_parts (is_of_module f m name) (is_routine (specification f name)) routine).1
      where
        by : (o : Option Specification) → specification f name ≡ o → is_routine o ≡ true → ModuleRuns name (actuals_settled f.scope cs)
        by (Some sp) is of_form =
            let xs : Actuals = actuals_settled f.scope cs in
            let there : is_of_module f m name ≡ true = (and_parts (is_of_module f m name) (is_routine (specification f name)) routine).0 in
            let fitting : has_fitting_kinds f (record { node = m; name = name; constants = cs }) ≡ true = good (is_of_module f m name) there (has_fitting_kinds f (record { node = m; name = name; constants = cs })) (or_parts (has_bad_actuals f (record { node = m; name = name; constants = cs })) false bad).0 in
            let kinds : are_of_kinds (context_at f n).kinds sp.kinds xs ≡ true = subst (λ c. are_of_kinds c.kinds sp.kinds xs ≡ true) (around ∙ sym x.around)
            (kinds_given m sp.kinds cs (subst (λ o. all_known (kinds_of o) ≡ true) is known) (subst (λ o. kinds_fit f m (kinds_of o) cs ≡ true) is fitting)) in
            let legal = s.specifications name sp is in
            let asked : AllMet f n (flat_map (demanded xs) (demands_of sp.form)) = subst (λ o. AllMet f n (asks_by f cs o)) is
            (met (is_of_module f m name && has_fitting_kinds f (record { node = m; name = name; constants = cs })) (and_from (is_of_module f m name) (has_fitting_kinds f (record { node = m; name = name; constants = cs })) there fitting)
            (any_parts (λ a. not (is_met f n a)) (asks_of_name f (record { node = m; name = name; constants = cs })) [] asks).0) in
            let instance : is_instance (context_at f n) (specification f) (specification f name) xs ≡ true = subst (λ o. is_instance (context_at f n) (specification f) o xs ≡ true) (sym is)
            (and_from (are_of_kinds (context_at f n).kinds sp.kinds xs) (are_demands_met (context_at f n) (specification f) xs (demands_of sp.form)) kinds
            (demands_met f n (context_of sp []) xs (demands_of sp.form) (asked_legal (specification f) sp sp.form legal) asked)) in
            let found = found_of sp.form sp xs legal of_form in
            let runs = module_runs f program routines s.specifications s.of_clusters s.texts n r x.runs name xs found.0 found.2.0 (subst (λ c. actuals_legal c (specification f) xs ≡ true) (sym x.around) l) instance (ap (heading_in xs) is ∙ found.1) found.2.1 in
            record { type = found.2.0; is = ap (λ o. found_type (heading_in xs o)) is ∙ ap found_type found.1 ∙ found.2.1; legal = subst (λ c. is_legal c (specification f) found.2.0 ≡ true) x.around runs.1; runs = runs.0 }
          where
            good : (b : Bool) → b ≡ true → (fits : Bool) → (if b then not fits else has_constants cs) ≡ false → fits ≡ true
            good true e true h = refl
            good true e false h = no (sym h)
            good false e fits h = no e

            met : (b : Bool) → b ≡ true → AllMet f n (asks_of_module f b (record { node = m; name = name; constants = cs })) → AllMet f n (asks_by f cs (specification f name))
            met true e h = h
            met false e h = no e
        by None is of_form = no of_form
