-- p and p[actuals], where they name the routine of a module, are well typed in each instance of the text.
use Rattle.std.proofs.Common.{◌≡◌, ℕ, true, false, List, [], ◌∷◌, Option, refl, sym, ap, subst, ◌∙◌}
use Rattle.std.specs.Prelude.{flat_map, if◌then◌else◌}
use Rattle.std.specs.List.{list_any}
use Rattle.std.proofs.lemmas.Bool.{or_parts, not-false}
use Rattle.clu_base.specs.declared.rules.Rule.TheVariants as rule
use Rattle.clu_tree.specs.declared.node.NodeKind.{NodeKind}
use Rattle.clu_tree.specs.declared.node.NodeKind.TheVariants as kind
use Rattle.clu_types.specs.CluType.{CluType, Actuals, no_actuals}
use Rattle.clu_builtin.specs.Operation.{one}
use Rattle.clu_syntax.specs.Syntax.{Identifier, Expression, a_name, an_index, Constants, no_constants}
use Rattle.clu_meaning.specs.Scoping.{Meaning, is_equate, is_type_set, is_type_parameter, is_constant_parameter, is_local, is_own_of_routine, is_own_of_cluster, is_routine_of_cluster, is_module}
use Rattle.clu_meaning.specs.Settling.{actuals_settled}
use Rattle.clu_meaning.specs.Programs.{Program}
use Rattle.clu_meaning.specs.Resolving.{expression_of, indexed_by, constants}
use Rattle.clu_meaning.specs.Binding.{Running}
use Rattle.clu_checking.specs.Files.{File, item, kind_in, meaning}
use Rattle.clu_checking.specs.Headings.{specification}
use Rattle.clu_checking.specs.Typing.{found_type, type_of_meaning, instance_found, index_type, takes_actuals_by, takes_actuals}
use Rattle.clu_checking.specs.Wanted.{an_object, wanted, first_name_at, named_by, named_as, named_at, kinds_of}
use Rattle.clu_checking.specs.Invocations.{is_object_wanted, asks_of_name}
use Rattle.clu_checking.specs.ConstantRules.{is_module_routine, has_bad_actuals, is_illegal_parameter}
use Rattle.clu_checking.specs.ExpressionRules.{names_no_object, is_no_object_name, is_no_object_index, is_type_before_index, is_no_object, has_no_one_result, is_not_one_object}
use Rattle.laws_sound.specs.Raises.{Raise}
use Rattle.laws_sound.specs.Sound.{LawfulBy}
use Rattle.laws_sound.specs.WellTyped.{HasTypes}
use Rattle.laws_accepted.specs.Legal.{Context, actuals_legal, all_known}
use Rattle.laws_accepted.specs.Lawful.{Routines, is_lawful}
use Rattle.laws_accepted.specs.Accepted.{KeepsRules}
use Rattle.laws_accepted.specs.Instances.{context_at, AllMet, AsSpecified}
use Rattle.laws_accepted.specs.Standing.{ExpressionAt}
use Rattle.laws_accepted.proofs.OfKinds.{no}
use Rattle.laws_accepted.proofs.AtNodes.{second_false, names_met}
use Rattle.laws_accepted.proofs.ExpressionsTyped.{place, Typed}
use Rattle.laws_accepted.proofs.Modules.{module_named}

module _ (f : File) (program : Program) (routines : Routines) (s : AsSpecified f program routines) (r : Running) (home : Option CluType) (context : Context) (rs : List Raise) where
  abbrev Here : ℕ → NodeKind → Expression → Type 0
  Here n k e = ExpressionAt f routines r home context n k an_object e

  abbrev Gives : Expression → Type 0
  Gives e = Typed f program routines s r home context rs e

  abbrev Legal : Actuals → Type 0
  Legal xs = actuals_legal context (specification f) xs ≡ true

  -- what is left of V14 at a node that gives one object
  one_object : (n : ℕ) → KeepsRules f n → is_no_object f (kind_in f n) n ≡ false
  one_object n rules = (or_parts (has_no_one_result f n) (is_no_object f (kind_in f n) n) (or_parts (is_not_one_object f n) _ (rules rule.ResultCount)).0).1

  -- p
  pub module_name_typed : (n : ℕ) (name : Identifier) → Here n kind.Name (a_name n name) → first_name_at f n ≡ name → meaning f n name ≡ is_module → all_known (kinds_of (specification f name)) ≡ true → Gives (a_name n name)
  module_name_typed n name x first m known =
      let object : is_type_before_index f an_object n ≡ false = sym (ap (λ w. is_type_before_index f w n) x.wants) ∙ sym (ap (λ k. is_no_object f k n) x.stands.kind) ∙ one_object n x.stands.rules in
      let routine : is_module_routine f n name ≡ true = not-false (is_module_routine f n name) (sym (ap (names_no_object f n name) m) ∙ subst (λ y. is_no_object_name f n y ≡ false) first object) in
      let named : named_at f n ≡ record { node = n; name = name; constants = no_constants } ∷ [] = ap (λ k. named_as f k (wanted f n) n) x.stands.kind ∙ ap (λ w. named_as f kind.Name w n) x.wants ∙ ap (named_by f) x.is in
      let bad = sym (ap (list_any (has_bad_actuals f)) named) ∙ (or_parts (list_any (has_bad_actuals f) (named_at f n)) (is_illegal_parameter f (kind_in f n) n) (x.stands.rules rule.ParameterKind)).0 in
      let asks : AllMet f n (flat_map (asks_of_name f) (record { node = n; name = name; constants = no_constants } ∷ [])) = subst (λ xs. AllMet f n (flat_map (asks_of_name f) xs)) named (names_met f n x.stands.rules) in
      let y = module_named f program routines s r home context n kind.Name x.stands n name no_constants x.stands.around routine known refl bad asks in
      record {
        type = y.type;
        is = ap (type_of_meaning f n name) m ∙ y.is;
        legal = y.legal;
        own = y.runs.heading;
        typed = subst (λ d. HasTypes program (LawfulBy (is_lawful (specification f) routines)) r rs (expression_of (place f program routines s r home context rs) n name no_actuals d) (one y.runs.heading)) (sym m)
            (record { heading = y.runs.heading; there = y.runs.there; may = y.runs.may; law = y.runs.law; is = refl });
        fit = y.runs.fit;
      }

  -- a name that takes actuals, where an object is wanted, is a module's
  of_module : (m : ℕ) (name : Identifier) (d : Meaning) → takes_actuals_by f m name d ≡ true → names_no_object f m name d ≡ false → d ≡ is_module
  of_module m name (is_equate c) t o = no (sym o ∙ t)
  of_module m name is_type_set t o = no (sym o)
  of_module m name (is_type_parameter k) t o = no (sym o)
  of_module m name is_module t o = refl
  of_module m name (is_constant_parameter k) t o = no t
  of_module m name (is_local k) t o = no t
  of_module m name (is_own_of_routine k) t o = no t
  of_module m name (is_own_of_cluster k) t o = no t
  of_module m name is_routine_of_cluster t o = no t

  -- p[actuals]
  pub instance_typed : (n m : ℕ) (name : Identifier) (cs : Constants) → Here n kind.Index (an_index n (a_name m name) cs) → context_at f m ≡ context → takes_actuals f m name ≡ true → all_known (kinds_of (specification f name)) ≡ true → Legal (actuals_settled f.scope cs) →
      Gives (an_index n (a_name m name) cs)
  instance_typed n m name cs x around takes known l =
      let object : is_no_object_index f (an_index n (a_name m name) cs) ≡ false = sym (ap (is_no_object_index f) x.is)
      ∙ second_false (is_object_wanted (wanted f n)) (is_no_object_index f (item f n).expression) (ap is_object_wanted x.wants) (sym (ap (λ k. is_no_object f k n) x.stands.kind) ∙ one_object n x.stands.rules) in
      let no_type : is_no_object_name f m name ≡ false = second_false (takes_actuals f m name) (is_no_object_name f m name) takes object in
      let d : meaning f m name ≡ is_module = of_module m name (meaning f m name) takes no_type in
      let routine : is_module_routine f m name ≡ true = not-false (is_module_routine f m name) (sym (ap (names_no_object f m name) d) ∙ no_type) in
      let named : named_at f n ≡ record { node = m; name = name; constants = cs } ∷ [] = ap (λ k. named_as f k (wanted f n) n) x.stands.kind ∙ ap (named_by f) x.is ∙ ap (λ b. if b then record { node = m; name = name; constants = cs } ∷ [] else []) takes in
      let bad = sym (ap (list_any (has_bad_actuals f)) named) ∙ (or_parts (list_any (has_bad_actuals f) (named_at f n)) (is_illegal_parameter f (kind_in f n) n) (x.stands.rules rule.ParameterKind)).0 in
      let asks : AllMet f n (flat_map (asks_of_name f) (record { node = m; name = name; constants = cs } ∷ [])) = subst (λ xs. AllMet f n (flat_map (asks_of_name f) xs)) named (names_met f n x.stands.rules) in
      let y = module_named f program routines s r home context n kind.Index x.stands m name cs around routine known l bad asks in
      record {
        type = y.type;
        is = ap (λ b. index_type f b n m name cs) takes ∙ ap (λ d. found_type (instance_found f d name cs)) d ∙ y.is;
        legal = y.legal;
        own = y.runs.heading;
        typed = subst (λ d. HasTypes program (LawfulBy (is_lawful (specification f) routines)) r rs (indexed_by (place f program routines s r home context rs) m name cs (constants (place f program routines s r home context rs) cs) d) (one y.runs.heading)) (sym d)
            (record { heading = y.runs.heading; there = y.runs.there; may = y.runs.may; law = y.runs.law; is = refl });
        fit = y.runs.fit;
      }
