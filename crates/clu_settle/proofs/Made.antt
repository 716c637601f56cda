-- What functions that make types hand on.
use Rattle.std.proofs.Common.{◌≡◌, ◌∙◌, ◌<◌, ℕ, true, List, [], ◌∷◌, length, Option, Some, None, Result, Ok, Err, IfOk, refl, ap, sym, subst, arith}
use Rattle.std.specs.Option.{option_map}
use Rattle.std.proofs.lemmas.Bool.{true≢false}
use Rattle.clu_base.specs.declared.constants.Const.{Const}
use Rattle.clu_tree.specs.declared.node.Node.{Node}
use Rattle.clu_syntax.specs.Syntax.{Constant, Identifier}
use Rattle.clu_syntax.specs.declared.words.ListType.{ListType}
use Rattle.clu_syntax.specs.declared.words.FieldsType.{FieldsType}
use Rattle.clu_syntax.specs.declared.words.RoutineKind.{RoutineKind}
use Rattle.clu_types.specs.CluType.{CluType, CluTypes, Fields, Signals, Actuals, no_actuals, cluster_of}
use Rattle.clu_types.specs.Arena.{type_at, types_at, fields_at, signals_at, actual_at, actuals_at}
use Rattle.clu_types.specs.declared.term.TypeId.{TypeId}
use Rattle.clu_types.specs.declared.term.Field.{Field}
use Rattle.clu_types.specs.declared.term.Exception.{Exception}
use Rattle.clu_types.specs.declared.term.Actual.{Actual}
use Rattle.clu_types.specs.declared.term.Actual.TheVariants as actual
use Rattle.clu_meaning.specs.Scoping as means
use Rattle.clu_meaning.specs.Scoping.{Scope}
use Rattle.clu_meaning.specs.Settling.{Value as Settled, settled_type, unsettled, list_type, fields_type, routine_type, module_type, value_of_meaning}
use Rattle.clu_settle.specs.declared.value.Value.{Value}
use Rattle.clu_settle.specs.declared.value.Value.TheVariants as value
use Rattle.clu_settle.specs.Inserted.{in_order}
use Rattle.clu_settle.specs.Values.{told, Agrees}
use Rattle.clu_settle.specs.Names.{is_other}
use Rattle.clu_settle.specs.Lists.{ids_behind, field_before, selectors_behind, exception_before, signals_behind, actuals_behind}
use Rattle.clu_settle.specs.declared.meanings.Meaning.{Meaning}
use Rattle.clu_settle.specs.Agreeing.{TypesAgree, SelectorsAgree, SignalsAgree, ActualsAgree, MeaningAgrees}
use Rattle.clu_settle.proofs.Telling.{type_agrees_at, types_are, actuals_are, agrees_so}
use Rattle.clu_settle.proofs.Fields.{selectors_are, signals_are}

pub ok_more : {A E : Type 0} (P Q : A → Type 0) (r : Result A E) → IfOk r P → ((a : A) → P a → Q a) → IfOk r Q
ok_more P Q (Ok a) p more = more a p
ok_more P Q (Err e) p more = tt

pub agrees_as : (o : Option Settled) (a b : Settled) → Agrees o a → a ≡ b → Agrees o b
agrees_as None a b p e = tt
agrees_as (Some known) a b p e = sym e ∙ p

-- what agrees with what a term is, agrees with what its parts are
module _ (types : List CluType) (constants : List Const) (values : List Value) where
  pub list_agrees : (o : Option Settled) (made : CluType) (word : ListType) (id : TypeId) (t : CluType) (v : Value) → made ≡ list_type word (type_at types id) → v ≡ value.Type id → Agrees (told types constants v) (settled_type t) → Agrees o (settled_type made) → Agrees o (settled_type (list_type word t))
  list_agrees o made word id t v e is a p = agrees_as o (settled_type made) (settled_type (list_type word t)) p
      (ap settled_type (e ∙ ap (list_type word) (type_agrees_at types constants values id t v is a)))

  pub fields_agree : (o : Option Settled) (made : CluType) (word : FieldsType) (nodes : List Node) (ns : List ℕ) (list : List Field) (fs : Fields) → made ≡ fields_type word (fields_at types list) → Some list ≡ option_map (in_order field_before) (selectors_behind values nodes [] ns) → SelectorsAgree types constants values nodes ns fs → Agrees o (settled_type made) → Agrees o (settled_type (fields_type word fs))
  fields_agree o made word nodes ns list fs e is a p = agrees_as o (settled_type made) (settled_type (fields_type word fs)) p
      (ap settled_type (e ∙ ap (fields_type word) (selectors_are types constants values nodes ns list fs is a)))

  pub routine_agrees : (o : Option Settled) (made : CluType) (kind : RoutineKind) (nodes : List Node) (ns ms ks : List ℕ) (args results : List TypeId) (signals : List Exception) (gs rs : CluTypes) (ss : Signals) →
      made ≡ routine_type kind (types_at types args) (types_at types results) (signals_at types signals) →
      Some args ≡ ids_behind values [] ns → Some results ≡ ids_behind values [] ms → Some signals ≡ option_map (in_order exception_before) (signals_behind values nodes [] ks) →
      TypesAgree types constants values ns gs → TypesAgree types constants values ms rs → SignalsAgree types constants values nodes ks ss →
      Agrees o (settled_type made) → Agrees o (settled_type (routine_type kind gs rs ss))
  routine_agrees o made kind nodes ns ms ks args results signals gs rs ss e f g h a b c p = agrees_as o (settled_type made) (settled_type (routine_type kind gs rs ss)) p
      (ap settled_type (e
      ∙ ap (λ (xs : CluTypes). routine_type kind xs (types_at types results) (signals_at types signals)) (types_are types constants values ns args gs f a)
      ∙ ap (λ (xs : CluTypes). routine_type kind gs xs (signals_at types signals)) (types_are types constants values ms results rs g b)
      ∙ ap (routine_type kind gs rs) (signals_are types constants values nodes ks signals ss h c)))

  pub module_agrees : (o : Option Settled) (name : Identifier) (ns : List ℕ) (list : List Actual) (gs : Actuals) → Some list ≡ actuals_behind values constants [] ns → ActualsAgree types constants values ns gs → o ≡ Some (settled_type (module_type name (actuals_at types list))) → Agrees o (settled_type (module_type name gs))
  module_agrees o name ns list gs e a f = agrees_as o (settled_type (module_type name (actuals_at types list))) (settled_type (module_type name gs)) (agrees_so o (settled_type (module_type name (actuals_at types list))) f)
      (ap (λ (xs : Actuals). settled_type (module_type name xs)) (actuals_are types constants values ns list gs e a))

-- ---- what a name means

module _ (scope : Scope) (unfolded : Constant → Settled) (name : Identifier) (gs : Actuals) where
  pub equate_agrees : (o : Option Settled) (c : Constant) (m : means.Meaning) → m ≡ means.is_equate c → Agrees o (unfolded c) → Agrees o (value_of_meaning scope unfolded name gs m)
  equate_agrees o c m e a = agrees_as o (unfolded c) (value_of_meaning scope unfolded name gs m) a (sym (ap (value_of_meaning scope unfolded name gs) e))

  pub other_agrees : (m : means.Meaning) → is_other m ≡ true → value_of_meaning scope unfolded name gs m ≡ unsettled
  other_agrees (means.is_equate c) e = absurd (true≢false (sym e))
  other_agrees means.is_type_set e = refl
  other_agrees (means.is_type_parameter k) e = absurd (true≢false (sym e))
  other_agrees (means.is_constant_parameter k) e = absurd (true≢false (sym e))
  other_agrees (means.is_local t) e = refl
  other_agrees (means.is_own_of_routine t) e = refl
  other_agrees (means.is_own_of_cluster t) e = refl
  other_agrees means.is_routine_of_cluster e = refl
  other_agrees means.is_module e = absurd (true≢false (sym e))

-- ---- a module's name with actual parameters

applied_at : (types : List CluType) (name : Identifier) (a : Actual) (rest : Actuals) → module_type name (actual_at types a rest) ≡ cluster_of name (actual_at types a rest)
applied_at types name (actual.Of id) rest = refl
applied_at types name (actual.Const c) rest = refl
applied_at types name (actual.ConstParam k) rest = refl

pub applied : (types : List CluType) (name : Identifier) (given : List Actual) → 0 < length given → module_type name (actuals_at types given) ≡ cluster_of name (actuals_at types given)
applied types name [] l = absurd (omega (arith, l))
applied types name (a ∷ rest) l = applied_at types name a (actuals_at types rest)

pub unapplied : (types : List CluType) (name : Identifier) (given : List Actual) → length given ≡ 0 → module_type name (actuals_at types given) ≡ module_type name no_actuals
unapplied types name [] e = refl
unapplied types name (a ∷ rest) e = absurd (omega (arith, e))

-- ---- a name that stands for this

pub meant_as : (types : List CluType) (constants : List Const) (values : List Value) (unfolded : Constant → Settled) (x y : Meaning) (m : means.Meaning) → x ≡ y → MeaningAgrees types constants values unfolded x m → MeaningAgrees types constants values unfolded y m
meant_as types constants values unfolded x y m e a = subst (λ (v : Meaning). MeaningAgrees types constants values unfolded v m) e a
