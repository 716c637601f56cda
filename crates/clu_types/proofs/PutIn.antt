-- What a parameter becomes, by the actual of its number.
use Rattle.std.proofs.Common.{◌≡◌, ℕ, zero, suc, List, [], ◌∷◌, Option, None, Some, slice_get, refl}
use Rattle.clu_types.specs.CluType.{CluType, parameter, Actuals, actual_const, actual_param}
use Rattle.clu_types.specs.Arena.{type_at, actuals_at, ActualBelow, ActualsBelow}
use Rattle.clu_types.specs.Substituted.{type_of_actual, constant_of_actual, type_put, constant_put}
use Rattle.clu_types.specs.Actual.{nth}
use Rattle.clu_types.specs.declared.term.Actual.{Actual}
use Rattle.clu_types.specs.declared.term.Actual.TheVariants as actual

abbrev pub type_by : List CluType → Option Actual → CluType → CluType
type_by types None other = other
type_by types (Some (actual.Of id)) other = type_at types id
type_by types (Some (actual.Const c)) other = other
type_by types (Some (actual.ConstParam p)) other = other

abbrev pub constant_put_by : Option Actual → ℕ → Actuals → Actuals
constant_put_by None n behind = actual_param n behind
constant_put_by (Some (actual.Of id)) n behind = actual_param n behind
constant_put_by (Some (actual.Const c)) n behind = actual_const c behind
constant_put_by (Some (actual.ConstParam p)) n behind = actual_param p behind

type_at_place : (types : List CluType) (given : List Actual) (i : ℕ) (other : CluType) → type_of_actual (actuals_at types given) i other ≡ type_by types (slice_get given i) other
type_at_place types [] i other = refl
type_at_place types (actual.Of id ∷ rest) zero other = refl
type_at_place types (actual.Const c ∷ rest) zero other = refl
type_at_place types (actual.ConstParam p ∷ rest) zero other = refl
type_at_place types (actual.Of id ∷ rest) (suc i) other = type_at_place types rest i other
type_at_place types (actual.Const c ∷ rest) (suc i) other = type_at_place types rest i other
type_at_place types (actual.ConstParam p ∷ rest) (suc i) other = type_at_place types rest i other

constant_at_place : (types : List CluType) (given : List Actual) (i n : ℕ) (behind : Actuals) → constant_of_actual (actuals_at types given) i n behind ≡ constant_put_by (slice_get given i) n behind
constant_at_place types [] i n behind = refl
constant_at_place types (actual.Of id ∷ rest) zero n behind = refl
constant_at_place types (actual.Const c ∷ rest) zero n behind = refl
constant_at_place types (actual.ConstParam p ∷ rest) zero n behind = refl
constant_at_place types (actual.Of id ∷ rest) (suc i) n behind = constant_at_place types rest i n behind
constant_at_place types (actual.Const c ∷ rest) (suc i) n behind = constant_at_place types rest i n behind
constant_at_place types (actual.ConstParam p ∷ rest) (suc i) n behind = constant_at_place types rest i n behind

pub type_put-nth : (types : List CluType) (given : List Actual) (n : ℕ) (found : Option Actual) → nth given n ≡ found → type_put (actuals_at types given) n ≡ type_by types found (parameter n)
type_put-nth types given zero found e = rw (← e) refl
type_put-nth types given (suc i) found e = rw (← e) (type_at_place types given i (parameter (suc i)))

pub constant_put-nth : (types : List CluType) (given : List Actual) (n : ℕ) (behind : Actuals) (found : Option Actual) → nth given n ≡ found → constant_put (actuals_at types given) n behind ≡ constant_put_by found n behind
constant_put-nth types given zero behind found e = rw (← e) refl
constant_put-nth types given (suc i) behind found e = rw (← e) (constant_at_place types given i (suc i) behind)

below_at_place : (m : ℕ) (given : List Actual) (i : ℕ) (a : Actual) → slice_get given i ≡ Some a → ActualsBelow m given → ActualBelow m a
below_at_place m [] i a e b = cc
below_at_place m (x ∷ rest) zero a e b = let same : x ≡ a = cc in rw (← same) b.0
below_at_place m (x ∷ rest) (suc i) a e b = below_at_place m rest i a e b.1

pub nth_below : (m : ℕ) (given : List Actual) (n : ℕ) (a : Actual) → nth given n ≡ Some a → ActualsBelow m given → ActualBelow m a
nth_below m given zero a e b = cc
nth_below m given (suc i) a e b = below_at_place m given i a e b
