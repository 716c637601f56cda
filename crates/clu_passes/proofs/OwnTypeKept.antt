-- What was of an arena is of each into which it grows: types of values, and that of a cluster with its own parameters.
use Rattle.std.proofs.Common.{◌≡◌, ◌∙◌, ℕ, suc, ◌<◌, ◌≤◌, Bool, true, false, List, [], ◌∷◌, length, Option, Some, None, sym, ap, subst, arith}
use Rattle.std.specs.Prelude.{slice_get}
use Rattle.std.proofs.lemmas.List.Elements.{All-weaker}
use Rattle.std.proofs.lemmas.Option.{none-some, same_Some, slice_get_within}
use Rattle.clu_base.proofs.Lists.{front_get}
use Rattle.clu_types.specs.Arena.{Grows}
use Rattle.clu_types.specs.declared.spec.ParamKind.{ParamKind}
use Rattle.clu_types.specs.declared.term.Actual.{Actual}
use Rattle.clu_types.specs.declared.term.Actual.TheVariants as actual
use Rattle.clu_types.specs.declared.term.Term.{Term}
use Rattle.clu_types.specs.declared.term.Term.TheVariants as term
use Rattle.clu_types.specs.declared.term.TypeId.{TypeId}
use Rattle.clu_settle.specs.declared.value.Value.{Value}
use Rattle.clu_settle.specs.declared.value.Value.TheVariants as value
use Rattle.clu_settle.specs.Values.{AreWithin, TypeWithin}
use Rattle.clu_head.specs.OwnTypes.{AreOwn, IsOwn, IsOwnActual, IsOwnType, is_type_parameter, number_at}

-- ---- values

value_later : (n m : ℕ) → n ≤ m → (v : Value) → TypeWithin n v → TypeWithin m v
value_later n m more (value.Type id) is = omega (arith, more, is)
value_later n m more _ is = tt

pub values_later : (n m constants : ℕ) → n ≤ m → (values : List Value) → AreWithin n constants values → AreWithin m constants values
values_later n m constants more values within = (All-weaker (TypeWithin n) (TypeWithin m) (value_later n m more) values within.0, within.1)

-- ---- terms

module _ (old new : List Term) (grows : Grows old new) where
  term_kept : (i : ℕ) (t : Term) → slice_get old i ≡ Some t → slice_get new i ≡ Some t
  term_kept i t at = ap (λ (ts : List Term). slice_get ts i) grows.1 ∙ front_get old grows.0 i (slice_get_within old i t at) ∙ at

  one_kept : (b : Bool) (n : ℕ) (a : Actual) → IsOwn old b n a → IsOwn new b n a
  one_kept true n (actual.Of id) is = term_kept id.0 (term.Param n) is
  one_kept true n _ is = absurd is
  one_kept false n (actual.ConstParam p) is = is
  one_kept false n _ is = absurd is

  actual_kept : (k : Option ParamKind) (n : ℕ) (a : Actual) → IsOwnActual old k n a → IsOwnActual new k n a
  unfolding IsOwnActual
  actual_kept k n a is = one_kept (is_type_parameter k) n a is

  actuals_kept : (place : ℕ) (ks : List (Option ParamKind)) (xs : List Actual) → AreOwn old place ks xs → AreOwn new place ks xs
  unfolding AreOwn
  actuals_kept place [] [] are = are
  actuals_kept place [] (x ∷ xs) are = absurd are
  actuals_kept place (k ∷ ks) [] are = absurd are
  actuals_kept place (k ∷ ks) (x ∷ xs) are = (actual_kept k (number_at place) x are.0, actuals_kept (suc place) ks xs are.1)

  pub own_kept : (name : List ℕ) (kinds : List (Option ParamKind)) (own : Option TypeId) → IsOwnType old name kinds own → IsOwnType new name kinds own
  unfolding IsOwnType
  own_kept name kinds (Some id) is = (is.0, term_kept id.0 (term.Cluster name is.0) is.1, actuals_kept 0 kinds is.0 is.2)
  own_kept name kinds None is = is

-- ---- the type of a cluster is of the arena in which it stands

pub own_below : (types : List Term) (name : List ℕ) (kinds : List (Option ParamKind)) (own : Option TypeId) → IsOwnType types name kinds own → (id : TypeId) → own ≡ Some id → id.0 < length types
unfolding IsOwnType
own_below types name kinds (Some own) is id e = subst (λ (t : TypeId). t.0 < length types) (same_Some own id e) (slice_get_within types own.0 (term.Cluster name is.0) is.1)
own_below types name kinds None is id e = absurd is

pub own_there : (types : List Term) (name : List ℕ) (kinds : List (Option ParamKind)) (own : Option TypeId) → IsOwnType types name kinds own → own ≡ None → ⊥
unfolding IsOwnType
own_there types name kinds (Some own) is e = none-some own (sym e)
own_there types name kinds None is e = is
