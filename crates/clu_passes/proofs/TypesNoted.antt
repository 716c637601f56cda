-- The type that is noted of an expression is its type, whatever the expression is.
use Rattle.std.proofs.Common.{◌≡◌, ◌∙◌, ◌<◌, ℕ, Bool, true, false, if◌then◌else◌, List, length, codes, bytes_eq, option_map, Option, Some, None, refl, sym, ap, subst}
use Rattle.std.proofs.lemmas.Bool.{true≢false}
use Rattle.clu_types.specs.CluType.{CluType, cluster_of, stream_type, Actuals, no_actuals, actual_type, actual_const, actual_param}
use Rattle.clu_types.specs.Arena.{IsArena, Grows, type_at, types_of}
use Rattle.clu_types.specs.declared.term.Term.{Term}
use Rattle.clu_types.specs.declared.term.TypeId.{TypeId}
use Rattle.clu_syntax.specs.Items.{Item}
use Rattle.clu_syntax.specs.Syntax.{Identifier, Constants, Expression, an_infix, a_prefix, a_paren, a_literal, a_name, an_index, a_get, a_call, fields, elements, elements_from, an_operation, a_force, an_up, a_down}
use Rattle.clu_meaning.specs.Scoping as means
use Rattle.clu_meaning.specs.Scoping.{Scope}
use Rattle.clu_meaning.specs.Settling.{Value as Settled, actuals_settled, module_type}
use Rattle.clu_settle.specs.declared.value.Value.{Value}
use Rattle.clu_settle.specs.declared.value.Value.TheVariants as value
use Rattle.clu_settle.specs.Lists.{type_id}
use Rattle.clu_checking.specs.Specifications.{Specification, specification_in}
use Rattle.clu_checking.specs.Files.{File, denotes_module, item, meaning}
use Rattle.clu_checking.specs.Headings.{or_kept, own_specifications, parameter_type, specification}
use Rattle.clu_checking.specs.Operations.{Found}
use Rattle.clu_checking.specs.Settled.{value_settled}
use Rattle.clu_checking.specs.Typing as typing
use Rattle.clu_checking.specs.Typing.{found_type, index_type, instance_found, takes_actuals, type_of, type_of_meaning, value_type}
use Rattle.clu_bindings.specs.declared.file.Headed.{Headed}
use Rattle.clu_bindings.specs.declared.meaning.Meaning.{Meaning}
use Rattle.clu_bindings.specs.declared.meaning.Meaning.TheVariants as meant
use Rattle.clu_bindings.specs.Inside as bound
use Rattle.clu_bindings.specs.Named as named
use Rattle.clu_bindings.specs.Readers.{children_in, meaning_in, value_in}
use Rattle.clu_operations.specs.declared.finding.Finding.{Finding}
use Rattle.clu_operations.specs.Finding.{AreWithin, IsBelowIf}
use Rattle.clu_operations.specs.Wished.{IsFinding, told_seen}
use Rattle.clu_typing.specs.declared.applied.Applied.{Applied}
use Rattle.clu_typing.specs.declared.facts.Facts.{Facts}
use Rattle.clu_typing.specs.declared.facts.Operation.{Operation}
use Rattle.clu_typing.specs.Facts.{operation_type}
use Rattle.clu_typing.specs.Found.{IsAppliedTold, IsModuleTold, IsModuleType}
use Rattle.clu_typing.specs.Nodes.{has_actuals, names_module}
use Rattle.clu_typing.specs.Stands.{stands_by}
use Rattle.clu_typing.specs.Typing.{constant_type, IsIndexTypeBy, IsInstanceType, IsNameType, IsTypeBy, IsValueType}
use Rattle.clu_passes.specs.Ascending.{Ascends, ActualsAscend, SpecificationsAscend}
use Rattle.clu_passes.specs.ConstantTables.{Means, file_with}
use Rattle.clu_passes.specs.FactTables.{IsAsking, IsFound, IsType}
use Rattle.clu_passes.specs.FoundTold.{TellHeads, found_of, module_found}
use Rattle.clu_passes.specs.NamesKnown.{HasTypes, IsNameKnown, IsValueKnown, variable_of}
use Rattle.clu_passes.specs.NodeTypes.{HasNames, number_of}
use Rattle.clu_passes.specs.NotedLists.{types_given}
use Rattle.clu_passes.specs.StandsFor.{AreOperandsOf, StandsFor}
use Rattle.clu_passes.proofs.AppliedFound.{asking_is, first_is, found_is, stands_so}
use Rattle.clu_passes.proofs.AppliedTyped.{found_typed}
use Rattle.clu_passes.proofs.NodeTyped.{expression_typed, type_grown}
use Rattle.clu_passes.proofs.OperationsFound.{itself_found, nothing_itself}
use Rattle.clu_passes.proofs.SettledAscend.{actuals_settled_ascend}
use Rattle.clu_passes.proofs.Sugared.{constants_said}
use Rattle.clu_passes.proofs.TermsAscend.{components_up}

none_of : (terms : List Term) (of : Option TypeId) → of ≡ None → IsType terms of None
none_of terms of e = subst (λ (o : Option TypeId). IsType terms o None) (sym e) tt

-- what names stand for, as far as an operation is named
pub names_so : (f : File) (h : Headed) (items : ℕ → Item) (terms : List Term) (n : ℕ) (e : Expression) → HasTypes f h items terms n e → HasNames f h terms n e
names_so f h items terms n (a_name m name) types = (types.own, types.means)
names_so f h items terms n (an_index m (a_name k name) cs) types = types.0
names_so f h items terms n (an_index m e cs) types = types
names_so f h items terms n (an_operation m t name) types = types
names_so f h items terms n _ types = tt

-- ---- modules with actual parameters

module_ascends : (name : Identifier) (given : Actuals) → ActualsAscend given → Ascends (module_type name given)
module_ascends name no_actuals all = by (bytes_eq name (codes "stream"))
  where
    by : (b : Bool) → Ascends (if b then stream_type else cluster_of name no_actuals)
    by true = tt
    by false = tt
module_ascends name (actual_type t rest) all = all
module_ascends name (actual_const c rest) all = all
module_ascends name (actual_param k rest) all = all

-- what the definition has of a module by itself
abbrev pub itself : File → Identifier → Actuals → Option Found
itself f name given = option_map (module_found given) (option_map (λ s. s.form) (specification f name))

itself_typed : (f : File) (name : Identifier) (given : Actuals) → found_type (itself f name given) ≡ found_type (typing.module_found f name given)
itself_typed f name given = by (specification f name)
  where
    by : (o : Option Specification) → found_type (option_map (module_found given) (option_map (λ s. s.form) o)) ≡ found_type (typing.heading_in given o)
    by (Some s) = refl
    by None = refl

-- `stream` is the name of no module
no_stream : (f : File) (name : Identifier) (given : Actuals) → bytes_eq name (codes "stream") ≡ true → None ≡ itself f name given
no_stream f name given e = sym (ap (λ (b : Bool). option_map (module_found given) (option_map (λ (s : Specification). s.form) (if b then None else or_kept f (specification_in (own_specifications f) name) name))) e)

module _ (h : Headed) (scope : Scope) (library : List Specification) (refused : List ℕ) (up : SpecificationsAscend library) (old new : List Term) (grows : Grows old new) (arena : IsArena old) (later : IsArena new)
    (tell : TellHeads h (file_with h.file scope library refused) (types_of old)) (tells : TellHeads h (file_with h.file scope library refused) (types_of new)) (facts : Facts) (within : AreWithin (length old) facts.finding)
    (after : Finding) (last : AreWithin (length new) after) (found : IsFinding h old facts.finding) where
  abbrev f : File
  f = file_with h.file scope library refused

  abbrev now : Facts
  now = record facts { finding = after }

  -- ---- the routine of a module

  seen_itself : (of : TypeId) → of.0 < length new → (name : Identifier) (given : Actuals) → type_at (types_of new) of ≡ module_type name given → option_map found_of (told_seen h new after.words None of None) ≡ itself f name given
  seen_itself of lt name (actual_type t rest) e = itself_found h scope library refused new later tells after.words of lt name (actual_type t rest) e
  seen_itself of lt name (actual_const c rest) e = itself_found h scope library refused new later tells after.words of lt name (actual_const c rest) e
  seen_itself of lt name (actual_param k rest) e = itself_found h scope library refused new later tells after.words of lt name (actual_param k rest) e
  seen_itself of lt name no_actuals e = by (bytes_eq name (codes "stream")) refl e
    where
      by : (b : Bool) → bytes_eq name (codes "stream") ≡ b → type_at (types_of new) of ≡ (if b then stream_type else cluster_of name no_actuals) → option_map found_of (told_seen h new after.words None of None) ≡ itself f name no_actuals
      by true stream e = nothing_itself h scope library refused new later tells after.words of lt stream_type refl e ∙ no_stream f name no_actuals stream
      by false other e = itself_found h scope library refused new later tells after.words of lt name no_actuals e

  -- what a module asks of its actual parameters
  pub instance_asks : (name : Identifier) (given : Actuals) → ActualsAscend given → (value : Option TypeId) → IsType new value (Some (module_type name given)) → (its : Operation) → IsModuleTold h new after value its → IsAsking new now its (itself f name given)
  instance_asks name given all None is its told = absurd is
  instance_asks name given all (Some id) is its told =
      let ascends : Ascends (type_at (types_of new) id) = subst Ascends is.1 (module_ascends name given all) in
      subst (λ (o : Operation). IsAsking new now o (itself f name given)) (sym told.is)
      (asking_is h scope library refused new later tells up now last told.found (itself f name given) (ap (option_map found_of) (told.tells (components_up (type_at (types_of new) id) ascends)) ∙ seen_itself id is.0 name given (sym is.1)))

  instance_typed : (name : Identifier) (given : Actuals) → ActualsAscend given → (value of : Option TypeId) → IsType old value (Some (module_type name given)) → IsModuleType h new after value of → IsType new of (found_type (typing.module_found f name given))
  instance_typed name given all None of is its = absurd is
  instance_typed name given all (Some id) of is its =
      let grown : IsType new (Some id) (Some (module_type name given)) = type_grown old new grows (Some id) (Some (module_type name given)) is in
      let ascends : Ascends (type_at (types_of new) id) = subst Ascends grown.1 (module_ascends name given all) in
      let so : IsFound new now its.0 (itself f name given) =
      subst (λ (o : Operation). IsFound new now o (itself f name given)) (sym its.1.is)
      (found_is h scope library refused new later tells up now last its.1.found its.1.there (itself f name given) (ap (option_map found_of) (its.1.tells (components_up (type_at (types_of new) id) ascends)) ∙ seen_itself id grown.0 name given (sym grown.1))) in
      subst (λ (o : Option TypeId). IsType new o (found_type (typing.module_found f name given))) (sym its.2)
      (subst (λ (t : Option CluType). IsType new (operation_type now its.0) t) (itself_typed f name given) (found_typed f new later now its.0 (itself f name given) so))

  module _ (n : ℕ) (its : Applied) (known : List (Option TypeId)) (items : ℕ → Item) (number : IsBelowIf (length old) (type_id (value_in h.file n))) where
    same : (of x : Option TypeId) (t : Option CluType) → of ≡ x → IsType old x t → IsType new of t
    same of x t e is = subst (λ (o : Option TypeId). IsType new o t) (sym e) (type_grown old new grows x t is)

    module_typed : (name : Identifier) (given : Actuals) → ActualsAscend given → (of : Option TypeId) → IsType old (type_id (value_in h.file n)) (Some (module_type name given)) → IsInstanceType old new facts.finding after h n of → IsType new of (found_type (typing.module_found f name given))
    module_typed name given all of is its = instance_typed name given all (type_id (value_in h.file n)) of is (its number found)

    -- ---- names

    value_typed : (m : ℕ) → ((k : ℕ) → IsType old (named.parameter_type h.file old n k) (parameter_type f m k)) → (v : Value) (s : Settled) → IsValueKnown f h items old v s → (of : Option TypeId) → IsValueType old new h.file n v of → IsType new of (value_type f m s)
    value_typed m parameters value.Nothing s e of is = subst (λ (s : Settled). IsType new of (value_type f m s)) (sym e) (none_of new of is)
    value_typed m parameters value.Lost s e of is = absurd e
    value_typed m parameters (value.Type id) s e of is = subst (λ (s : Settled). IsType new of (value_type f m s)) (sym e.1) (none_of new of is)
    value_typed m parameters (value.Constant place) s e of is =
        subst (λ (s : Settled). IsType new of (value_type f m s)) (sym e.2)
        (subst (λ (t : Option CluType). IsType new of t) (ap (option_map constant_type) e.1 ∙ ap Some (constants_said e.0)) is)
    value_typed m parameters (value.Parameter k) s e of is = subst (λ (s : Settled). IsType new of (value_type f m s)) (sym e) (same of (named.parameter_type h.file old n k) (parameter_type f m k) is (parameters k))

    abbrev Named : ℕ → Identifier → Option TypeId → means.Meaning → Type 0
    Named m name of x = IsType new of (type_of_meaning f m name x)

    as_means : (m : ℕ) (name : Identifier) (of : Option TypeId) (x y : means.Meaning) → x ≡ y → Named m name of y → Named m name of x
    as_means m name of x y e is = subst (λ (x : means.Meaning). Named m name of x) (sym e) is

    name_typed : (m : ℕ) (name : Identifier) → IsNameKnown f h items old n m name → StandsFor f old facts (a_name m name) its → (of : Option TypeId) (a : Meaning) → meaning_in h.file n ≡ a → Means f.nodes a (meaning f m name)
        → IsNameType old new facts.finding after h n its items a of → Named m name of (meaning f m name)
    unfolding IsTypeBy
    name_typed m name its_known stand of (meant.Equate c) at e is = as_means m name of (meaning f m name) _ e.1 (value_typed m its_known.parameters (value_in h.file c) (value_settled f.scope (item f c).constant) (its_known.equate c at) of is)
    name_typed m name its_known stand of (meant.ConstantParameter k) at e is = as_means m name of (meaning f m name) _ e (same of (named.parameter_type h.file old n k) (parameter_type f m k) is (its_known.parameters k))
    name_typed m name its_known stand of (meant.Local t) at e is = as_means m name of (meaning f m name) _ e (same of (bound.known_inside h items n t) _ is (its_known.variables t (ap variable_of at)))
    name_typed m name its_known stand of (meant.OwnOfRoutine t) at e is = as_means m name of (meaning f m name) _ e (same of (bound.known_inside h items n t) _ is (its_known.variables t (ap variable_of at)))
    name_typed m name its_known stand of (meant.OwnOfCluster t) at e is = as_means m name of (meaning f m name) _ e (same of (bound.known_inside h items n t) _ is (its_known.variables t (ap variable_of at)))
    name_typed m name its_known stand of meant.RoutineOfCluster at e is =
        expression_typed f h old new grows arena facts after n its known items (a_name m name) of (at, e) stand (subst (λ (a : Meaning). IsNameType old new facts.finding after h n its items a of) (sym at) is)
    name_typed m name its_known stand of (meant.Module id) at e is = as_means m name of (meaning f m name) _ e (module_typed name no_actuals tt of (its_known.instance id at) is)
    name_typed m name its_known stand of meant.TypeSet at e is = as_means m name of (meaning f m name) _ e (none_of new of is)
    name_typed m name its_known stand of (meant.TypeParameter k) at e is = as_means m name of (meaning f m name) _ e (none_of new of is)

    -- ---- brackets

    a_module : (x : means.Meaning) → denotes_module f x ≡ true → (name : Identifier) (cs : Constants) (of : Option TypeId) → IsType new of (found_type (typing.module_found f name (actuals_settled f.scope cs))) → IsType new of (found_type (instance_found f x name cs))
    a_module means.is_module e name cs of is = is
    a_module _ e name cs of is = absurd (true≢false (sym e))

    no_module : (x : means.Meaning) → denotes_module f x ≡ false → (name : Identifier) (cs : Constants) → found_type (instance_found f x name cs) ≡ None
    no_module means.is_module e name cs = absurd (true≢false e)
    no_module _ e name cs = refl

    index_typed : (m k : ℕ) (name : Identifier) (cs : Constants) → HasTypes f h items old n (an_index m (a_name k name) cs) → StandsFor f old facts (an_index m (a_name k name) cs) its → (of : Option TypeId) (b : Bool) → has_actuals h.file n ≡ b → (c : Bool) → names_module h.file n ≡ c
        → IsIndexTypeBy old new facts.finding after h n its b c of → IsType new of (index_type f (takes_actuals f k name) m k name cs)
    unfolding IsTypeBy
    index_typed m k name cs types stand of false at c so is =
        expression_typed f h old new grows arena facts after n its known items (an_index m (a_name k name) cs) of (at, sym types.0 ∙ at) stand
        (subst (λ (b : Bool). IsIndexTypeBy old new facts.finding after h n its b (names_module h.file n) of) (sym at) (subst (λ (c : Bool). IsIndexTypeBy old new facts.finding after h n its false c of) (sym so) is))
    index_typed m k name cs types stand of true at true so is =
        subst (λ (b : Bool). IsType new of (index_type f b m k name cs)) (sym (sym types.0 ∙ at))
        (a_module (meaning f k name) (sym types.1 ∙ so) name cs of (module_typed name (actuals_settled f.scope cs) (actuals_settled_ascend f.scope cs) of (types.2 so) is))
    index_typed m k name cs types stand of true at false so is =
        subst (λ (b : Bool). IsType new of (index_type f b m k name cs)) (sym (sym types.0 ∙ at))
        (subst (λ (t : Option CluType). IsType new of t) (sym (no_module (meaning f k name) (sym types.1 ∙ so) name cs)) (none_of new of is))

    -- ---- expressions

    typed_by : (e : Expression) → AreOperandsOf f old (types_given known (children_in h.file n)) e → HasTypes f h items old n e → StandsFor f old facts e its → (of : Option TypeId) → IsTypeBy old new facts.finding after h n its known items e of → IsType new of (type_of f e)
    unfolding IsTypeBy
    typed_by (a_name m name) given types stand of is = name_typed m name types stand of (meaning_in h.file n) refl types.means is
    typed_by (an_index m (a_name k name) cs) given types stand of is = index_typed m k name cs types stand of (has_actuals h.file n) refl (names_module h.file n) refl is
    typed_by (an_index m e cs) given types stand of is = expression_typed f h old new grows arena facts after n its known items (an_index m e cs) of types stand is
    typed_by (a_paren m e) given types stand of is =
        expression_typed f h old new grows arena facts after n its known items (a_paren m e) of (first_is h scope library refused old arena tell up facts within known (children_in h.file n) (type_of f e) _ given) stand is
    typed_by (a_call m e es) given types stand of is =
        expression_typed f h old new grows arena facts after n its known items (a_call m e es) of (first_is h scope library refused old arena tell up facts within known (children_in h.file n) (type_of f e) _ given) stand is
    typed_by (an_infix m o a b) given types stand of is = expression_typed f h old new grows arena facts after n its known items (an_infix m o a b) of tt stand is
    typed_by (a_prefix m s e) given types stand of is = expression_typed f h old new grows arena facts after n its known items (a_prefix m s e) of tt stand is
    typed_by (a_literal m l) given types stand of is = expression_typed f h old new grows arena facts after n its known items (a_literal m l) of tt stand is
    typed_by (a_get m e name) given types stand of is = expression_typed f h old new grows arena facts after n its known items (a_get m e name) of tt stand is
    typed_by (fields m t cs) given types stand of is = expression_typed f h old new grows arena facts after n its known items (fields m t cs) of types stand is
    typed_by (elements m t es) given types stand of is = expression_typed f h old new grows arena facts after n its known items (elements m t es) of types stand is
    typed_by (elements_from m t e es) given types stand of is = expression_typed f h old new grows arena facts after n its known items (elements_from m t e es) of types stand is
    typed_by (an_operation m t name) given types stand of is = expression_typed f h old new grows arena facts after n its known items (an_operation m t name) of tt stand is
    typed_by (a_force m t) given types stand of is = expression_typed f h old new grows arena facts after n its known items (a_force m t) of types stand is
    typed_by (an_up m e) given types stand of is = expression_typed f h old new grows arena facts after n its known items (an_up m e) of types stand is
    typed_by (a_down m e) given types stand of is = expression_typed f h old new grows arena facts after n its known items (a_down m e) of types stand is

    pub type_noted : (e : Expression) → number_of e ≡ n → AreOperandsOf f old (types_given known (children_in h.file n)) e → HasTypes f h items old n e → IsAppliedTold h old facts.finding n (stands_by h.file known n e) its → (of : Option TypeId) → IsTypeBy old new facts.finding after h n its known items e of → IsType new of (type_of f e)
    type_noted e at given types told of is = typed_by e given types (stands_so h scope library refused old arena tell up facts within known n e at given (names_so f h items old n e types) its told) of is
