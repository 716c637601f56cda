-- What is told stays while types and constants are added; lists of types and of actuals, by what is told of their nodes.
use Rattle.std.proofs.Common.{◌≡◌, ◌∙◌, ℕ, List, [], ◌∷◌, ◌++◌, length, Option, Some, None, refl, ap, sym, subst, append_assoc}
use Rattle.std.specs.Prelude.{slice_index_or}
use Rattle.std.specs.Option.{option_and_then, option_map}
use Rattle.std.proofs.Math.ListN.{get_or-append}
use Rattle.std.proofs.lemmas.List.{append-nil}
use Rattle.std.proofs.lemmas.Option.{none-some, same_Some}
use Rattle.clu_base.specs.declared.constants.Const.{Const}
use Rattle.clu_base.specs.declared.constants.Const.TheVariants as constant
use Rattle.clu_types.specs.CluType.{CluType, CluTypes, no_types, Actuals, no_actuals}
use Rattle.clu_types.specs.Arena.{type_at, types_at, types_of, actuals_at, Grows}
use Rattle.clu_types.specs.declared.term.TypeId.{TypeId}
use Rattle.clu_types.specs.declared.term.Term.{Term}
use Rattle.clu_types.specs.declared.term.Actual.{Actual}
use Rattle.clu_types.proofs.Arenas.{types_grown}
use Rattle.clu_meaning.specs.Settling.{Value as Settled, settled_type, settled_constant, with_actual}
use Rattle.clu_settle.specs.declared.value.Value.{Value}
use Rattle.clu_settle.specs.declared.value.Value.TheVariants as value
use Rattle.clu_settle.specs.Values.{told, Agrees, TypeWithin, ConstantWithin, Kept}
use Rattle.clu_settle.specs.Lists.{type_id, value_of, ids_behind, actual_in, actuals_behind}
use Rattle.clu_settle.specs.Agreeing.{TypesAgree, no_more_types, type_agrees, ActualsAgree, no_more_actuals, actual_agrees}

pub told_kept : (old new : List Term) (cs ds : List Const) → Grows old new → Kept cs ds → (v : Value) → TypeWithin (length old) v → ConstantWithin (length cs) v → told (types_of new) ds v ≡ told (types_of old) cs v
told_kept old new cs ds g k value.Nothing b c = refl
told_kept old new cs ds g k value.Lost b c = refl
told_kept old new cs ds g k (value.Type id) b c = ap (λ (t : CluType). Some (settled_type t)) (types_grown old new g id b)
told_kept old new cs ds g k (value.Constant n) b c = ap (λ (x : Const). Some (settled_constant x)) (ap (λ (xs : List Const). slice_index_or xs n constant.Null) k.1 ∙ get_or-append cs k.0 constant.Null n c)
told_kept old new cs ds g k (value.Parameter n) b c = refl

pub agrees_so : (o : Option Settled) (s : Settled) → o ≡ Some s → Agrees o s
agrees_so None s e = tt
agrees_so (Some known) s e = sym (same_Some known s e)

pub same_type : (t u : CluType) → settled_type t ≡ settled_type u → u ≡ t
same_type t u e = cc

module _ (types : List CluType) (constants : List Const) (values : List Value) where
  -- what is told of a value is so
  pub type_agrees_at : (id : TypeId) (t : CluType) (v : Value) → v ≡ value.Type id → Agrees (told types constants v) (settled_type t) → type_at types id ≡ t
  type_agrees_at id t v is a = same_type t (type_at types id) (subst (λ (v : Value). Agrees (told types constants v) (settled_type t)) is a)

  -- ---- types

  -- what comes behind those before
  pub record IdsBehind (before : List TypeId) (ns : List ℕ) (ids : List TypeId) : Type 0 where
    pub rest : List TypeId
    pub is : ids ≡ before ++ rest
    pub agree : (ts : CluTypes) → TypesAgree types constants values ns ts → types_at types rest ≡ ts

  ids_agree : (id : TypeId) (rest : List TypeId) (n : ℕ) (ns : List ℕ) → value_of values n ≡ value.Type id → ((ts : CluTypes) → TypesAgree types constants values ns ts → types_at types rest ≡ ts) → (ts : CluTypes) → TypesAgree types constants values (n ∷ ns) ts → types_at types (id ∷ rest) ≡ ts
  ids_agree id rest n ns is more ts (type_agrees _ t _ us a others) =
      let first : type_at types id ≡ t = type_agrees_at id t (value_of values n) is a in
      let further : types_at types rest ≡ us = more us others in
      cc

  one_behind : (before : List TypeId) (n : ℕ) (ns : List ℕ) (ids : List TypeId) (v : Value) → value_of values n ≡ v →
      ((id : TypeId) → ids_behind values (before ++ id ∷ []) ns ≡ Some ids → IdsBehind (before ++ id ∷ []) ns ids) →
      option_and_then (λ id. ids_behind values (before ++ id ∷ []) ns) (type_id v) ≡ Some ids → IdsBehind before (n ∷ ns) ids
  one_behind before n ns ids (value.Type id) is more e =
      let m = more id e in
      record {
        rest = id ∷ m.rest;
        is = m.is ∙ append_assoc before (id ∷ []) m.rest;
        agree = ids_agree id m.rest n ns is m.agree;
      }
  one_behind before n ns ids value.Nothing is more e = absurd (none-some ids e)
  one_behind before n ns ids value.Lost is more e = absurd (none-some ids e)
  one_behind before n ns ids (value.Constant k) is more e = absurd (none-some ids e)
  one_behind before n ns ids (value.Parameter k) is more e = absurd (none-some ids e)

  no_ids_agree : (ts : CluTypes) → TypesAgree types constants values [] ts → no_types ≡ ts
  no_ids_agree ts no_more_types = refl

  pub ids_are : (before : List TypeId) (ns : List ℕ) (ids : List TypeId) → ids_behind values before ns ≡ Some ids → IdsBehind before ns ids
  ids_are before [] ids e = record { rest = []; is = sym (same_Some before ids e) ∙ sym (append-nil before); agree = no_ids_agree }
  ids_are before (n ∷ ns) ids e = one_behind before n ns ids (value_of values n) refl (λ id f. ids_are (before ++ id ∷ []) ns ids f) e

  -- the types of nodes are those of their numbers
  pub types_are : (ns : List ℕ) (ids : List TypeId) (ts : CluTypes) → Some ids ≡ ids_behind values [] ns → TypesAgree types constants values ns ts → types_at types ids ≡ ts
  types_are ns ids ts e a =
      let b = ids_are [] ns ids (sym e) in
      ap (types_at types) b.is ∙ b.agree ts a

  -- ---- actuals

  pub record ActualsBehind (before : List Actual) (ns : List ℕ) (all : List Actual) : Type 0 where
    pub rest : List Actual
    pub is : all ≡ before ++ rest
    pub agree : (gs : Actuals) → ActualsAgree types constants values ns gs → actuals_at types rest ≡ gs

  -- what one value adds
  one_actual : (v : Value) (more : List Actual) (s : Settled) (rest : List Actual) (gs : Actuals) → actual_in constants v ≡ Some more → Agrees (told types constants v) s → actuals_at types rest ≡ gs → actuals_at types (more ++ rest) ≡ with_actual s gs
  one_actual (value.Type id) more s rest gs e a f = cc
  one_actual (value.Constant k) more s rest gs e a f = cc
  one_actual (value.Parameter k) more s rest gs e a f = cc
  one_actual value.Nothing more s rest gs e a f = cc
  one_actual value.Lost more s rest gs e a f = absurd (none-some more e)

  actuals_agree : (more rest : List Actual) (n : ℕ) (ns : List ℕ) → actual_in constants (value_of values n) ≡ Some more → ((gs : Actuals) → ActualsAgree types constants values ns gs → actuals_at types rest ≡ gs) → (gs : Actuals) → ActualsAgree types constants values (n ∷ ns) gs → actuals_at types (more ++ rest) ≡ gs
  actuals_agree more rest n ns is behind gs (actual_agrees _ s _ bs a others) = one_actual (value_of values n) more s rest bs is a (behind bs others)

  actual_behind : (before : List Actual) (n : ℕ) (ns : List ℕ) (all : List Actual) (o : Option (List Actual)) → actual_in constants (value_of values n) ≡ o →
      ((more : List Actual) → actuals_behind values constants (before ++ more) ns ≡ Some all → ActualsBehind (before ++ more) ns all) →
      option_and_then (λ all. actuals_behind values constants all ns) (option_map (λ more. before ++ more) o) ≡ Some all → ActualsBehind before (n ∷ ns) all
  actual_behind before n ns all None is more e = absurd (none-some all e)
  actual_behind before n ns all (Some added) is more e =
      let m = more added e in
      record {
        rest = added ++ m.rest;
        is = m.is ∙ append_assoc before added m.rest;
        agree = actuals_agree added m.rest n ns is m.agree;
      }

  no_actuals_agree : (gs : Actuals) → ActualsAgree types constants values [] gs → no_actuals ≡ gs
  no_actuals_agree gs no_more_actuals = refl

  pub actuals_all : (before : List Actual) (ns : List ℕ) (all : List Actual) → actuals_behind values constants before ns ≡ Some all → ActualsBehind before ns all
  actuals_all before [] all e = record { rest = []; is = sym (same_Some before all e) ∙ sym (append-nil before); agree = no_actuals_agree }
  actuals_all before (n ∷ ns) all e = actual_behind before n ns all (actual_in constants (value_of values n)) refl (λ more f. actuals_all (before ++ more) ns all f) e

  pub actuals_are : (ns : List ℕ) (all : List Actual) (gs : Actuals) → Some all ≡ actuals_behind values constants [] ns → ActualsAgree types constants values ns gs → actuals_at types all ≡ gs
  actuals_are ns all gs e a =
      let b = actuals_all [] ns all (sym e) in
      ap (actuals_at types) b.is ∙ b.agree gs a
