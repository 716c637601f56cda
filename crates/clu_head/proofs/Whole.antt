-- Of what is whole something is found.
use Rattle.std.proofs.Common.{◌≡◌, ◌∙◌, ◌<◌, ℕ, Bool, true, false, List, length, get_or, All, Option, Some, None, IsSome, IsTrue, Result, Ok, Err, IfOk, sym, subst}
use Rattle.std.proofs.lemmas.Bool.{true≢false}
use Rattle.clu_types.specs.Arena.{type_at, type_of, types_of}
use Rattle.clu_types.specs.declared.spec.ParamKind.{ParamKind}
use Rattle.clu_types.specs.declared.term.TypeId.{TypeId}
use Rattle.clu_types.specs.declared.term.Term.{Term}
use Rattle.clu_types.specs.declared.term.Term.TheVariants as term
use Rattle.clu_types.specs.CluType.{CluType}
use Rattle.clu_head.specs.declared.head.Demanded.{Demanded}
use Rattle.clu_head.specs.declared.head.RoutineHead.{RoutineHead}
use Rattle.clu_head.specs.Kept.{IsMoved}
use Rattle.clu_head.specs.Whole.{IsRoutineTerm, IsRoutineType, HasType, HasRoutineType, AreWholeDemands, IsWholeRoutine, IsWholeIfExported, AreWholeRoutines, AreWholeKinds}

-- something is found under a condition, so under a stronger one
pub found_under : {X E : Type 0} (A B : Type 0) → (B → A) → (r : Result (Option X) E) → IfOk r (λ found. A → IsSome found) → IfOk r (λ found. B → IsSome found)
found_under A B stronger (Ok found) h = λ b. h (stronger b)
found_under A B stronger (Err e) h = tt

module _ (types : List Term) where
  pub type_not_there : (of : Option TypeId) (id : TypeId) (is : Bool) → of ≡ Some id → (id.0 < length types → is ≡ true) → is ≡ false → HasType types of → ⊥
  unfolding HasType
  type_not_there of id is same there past has = true≢false (sym (there (subst (HasType types) same has)) ∙ past)

  pub no_type : (of : Option TypeId) → of ≡ None → HasType types of → ⊥
  unfolding HasType
  no_type of same has = subst (HasType types) same has

  pub routine_there : (of : Option TypeId) → HasRoutineType types of → HasType types of
  unfolding HasType HasRoutineType
  routine_there (Some id) has = has.0
  routine_there None has = absurd has

  term_of_routine : (t : Term) → IsRoutineType (type_of (types_of types) t) → IsRoutineTerm t
  term_of_routine (term.Proc h) is = tt
  term_of_routine (term.Iter h) is = tt
  term_of_routine _ is = absurd is

pub routine_moved : (from to : List Term) (of : Option TypeId) (id : TypeId) (whole : Term) → IsMoved from to of id → type_at (types_of to) id ≡ type_of (types_of to) whole → HasRoutineType from of → IsRoutineTerm whole
unfolding IsMoved HasRoutineType
routine_moved from to None id whole is read has = absurd has
routine_moved from to (Some t) id whole is read has = term_of_routine to whole (subst IsRoutineType (sym is.1 ∙ read) has.1)

-- what was moved is of the arena
pub moved_within : (from to : List Term) (of : Option TypeId) (id : TypeId) → IsMoved from to of id → id.0 < length to
unfolding IsMoved
moved_within from to None id is = absurd is
moved_within from to (Some t) id is = is.0

-- ---- of lists

pub demand_whole : (types : List Term) (ds : List Demanded) (i : ℕ) (d : Demanded) → i < length ds → d ≡ get_or ds i d → AreWholeDemands types ds → HasType types d.wanted
unfolding AreWholeDemands
demand_whole types ds i d inside is are = subst (λ (x : Demanded). HasType types x.wanted) (sym is) (are i d inside)

pub routine_whole : (types : List Term) (rs : List RoutineHead) (i : ℕ) (r : RoutineHead) → i < length rs → r ≡ get_or rs i r → AreWholeRoutines types rs → IsWholeIfExported types r
unfolding AreWholeRoutines
routine_whole types rs i r inside is are = subst (IsWholeIfExported types) (sym is) (are i r inside)

pub exported_whole : (types : List Term) (r : RoutineHead) → r.exported ≡ true → IsWholeIfExported types r → IsWholeRoutine types r
unfolding IsWholeIfExported
exported_whole types r is are = are is

pub kind_lost : (kinds : List (Option ParamKind)) (i : ℕ) (d : Option ParamKind) → i < length kinds → get_or kinds i d ≡ None → AreWholeKinds kinds → false ≡ true
unfolding AreWholeKinds
kind_lost kinds i d inside is are = subst (λ (k : Option ParamKind). IsSome k) is (are i d inside)
